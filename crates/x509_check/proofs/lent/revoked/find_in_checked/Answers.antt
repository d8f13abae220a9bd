use Rattle.std.proofs.Common.{sym, ap, ◌∙◌, bytes_eq, arith}
use Rattle.std.proofs.lemmas.Bool.Decides.{nat_tests}
use Rattle.x509_check.proofs.CheckedEntries.{at_first, goes_past, is_first, is_here, none_further, none_here}
use Rattle.x509_check.proofs.LentCertificates.{is_read}
use Rattle.x509_check.proofs.LentLists.{listed_is}
use Rattle.x509_check.proofs.lent.revoked.find_in_checked.Goals as goal

pub loop-rest-init : goal.loop-rest-init
loop-rest-init g c = record {
  within = omega arith;
  left = (_, at_first {P = g.row.P.Denot} g.P.Profile.serial_check c.args.serial_number.now c.args.octets.now _ (listed_is _ c.requires.are_entries));
}

pub returns-in_default : goal.returns-in_default
returns-in_default g c = let left = c.loop-rest.invariant.left in none_here {P = g.row.P.Denot} g.P.Profile.serial_check c.args.serial_number.now _ _ left.0 _ (rw c.in_default.ensures.err at c.in_default.ensures.exact) left.1

pub known_entry-requires-clause-known : goal.known_entry-requires-clause-known
known_entry-requires-clause-known g c κs within =
    let left = c.loop-rest.invariant.left in
    is_read _ _ (is_here {P = g.row.P.Denot} g.P.Profile.serial_check c.args.serial_number.now _ _ left.0 _ c.in-Ok.ensures.exact left.1).read

pub returns-then-is_same : goal.returns-then-is_same
returns-then-is_same g c =
    let left = c.loop-rest.invariant.left in
    let front = is_here {P = g.row.P.Denot} g.P.Profile.serial_check c.args.serial_number.now _ _ left.0 _ c.in-Ok.ensures.exact left.1 in
    let number = ap (λ number. bytes_eq number c.args.serial_number.now) (sym (c.first_content.ensures front.first front.first_is ∙ front.number_is)) ∙ sym c.is_same.ensures ∙ c.if-is_same.true in
    let first = is_first c.args.serial_number.now _ front.others front.entry front.left number in
    rw ((c.known_entry.ensures front.entry _ front.read).0) first

pub loop-rest-preserved : goal.loop-rest-preserved
loop-rest-preserved g c =
    let left = c.loop-rest.invariant.left in
    let front = is_here {P = g.row.P.Denot} g.P.Profile.serial_check c.args.serial_number.now _ _ left.0 _ c.in-Ok.ensures.exact left.1 in
    let number = ap (λ number. bytes_eq number c.args.serial_number.now) (sym (c.first_content.ensures front.first front.first_is ∙ front.number_is)) ∙ sym c.is_same.ensures ∙ c.if-is_same.false in
    let same = goes_past c.args.serial_number.now _ front.others front.entry front.left number in record {
      within = omega (arith, c.loop-rest.invariant.within, c.in-Ok.ensures.within);
      left = (front.others, record { text = front.behind.text; good = front.behind.good; same = same });
    }

pub returns : goal.returns
returns g c = let left = c.loop-rest.invariant.left in none_further {P = g.row.P.Denot} g.P.Profile.serial_check c.args.serial_number.now _ _ left.0 (grind (arith, nat_tests)) left.1
