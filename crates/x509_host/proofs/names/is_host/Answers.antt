use Rattle.std.proofs.Common.{◌≡◌, false, length, sym, ◌∙◌, arith, rules}
use Rattle.std.proofs.lemmas.Bool.Decides.{nat_tests}
use Rattle.x509_host.proofs.ByOctets.{are_labels, at_end, host_by_octets}
use Rattle.x509_host.proofs.names.is_host.Goals as goal

pub returns-then-not-begun : goal.returns-then-not-begun
returns-then-not-begun c = let by : false ≡ are_labels false c.args.octets.now = search rules in by ∙ sym (host_by_octets c.args.octets.now)

pub returns-then-not-is_label_octet : goal.returns-then-not-is_label_octet
returns-then-not-is_label_octet c = let by : false ≡ are_labels false c.args.octets.now = search rules in by ∙ sym (host_by_octets c.args.octets.now)

pub returns : goal.returns
returns c =
    let none : length c.loop-left.left.now ≡ 0 = grind (arith, nat_tests) in
    at_end c.loop-left.begun c.loop-left.left.now none ∙ c.loop-left.invariant ∙ sym (host_by_octets c.args.octets.now)
