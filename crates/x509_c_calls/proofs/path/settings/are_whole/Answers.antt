use Rattle.std.proofs.Common.{◌≡◌, ◌∙◌, ◌==◌, ◌≤◌, ap, arith, drop, length, sym}
use Rattle.std.proofs.lemmas.Bool.{le-leb, leb-true}
use Rattle.std.proofs.Math.ListN.{drop_of_length-le}
use Rattle.std.proofs.lemmas.List.{take_rest}
use Rattle.std.specs.List.{list_all}
use Rattle.x509_c_calls.proofs.path.settings.are_whole.Goals as goal

pub returns-then-settings-le-KNOWN : goal.returns-then-settings-le-KNOWN
returns-then-settings-le-KNOWN c =
    let octets = c.args.settings.now in
    let few : length octets ≤ 104 = omega (arith, c.if-settings-le-KNOWN.true) in (
      λ enough. record { enough = leb-true 16 (length octets) enough; zeros = ap (list_all (λ octet. octet == 0)) (drop_of_length-le octets few) },
      λ whole. le-leb 16 (length octets) whole.enough,
    )

pub returns : goal.returns
returns c =
    let octets = c.args.settings.now in
    let same : c.are_zeros.result ≡ list_all (λ octet. octet == 0) (drop 104 octets) =
    c.are_zeros.ensures ∙ ap (list_all (λ octet. octet == 0)) (take_rest octets 104) in (
      λ zeros. record { enough = omega (arith, c.if-settings-le-KNOWN.false); zeros = sym same ∙ zeros },
      λ whole. same ∙ whole.zeros,
    )
