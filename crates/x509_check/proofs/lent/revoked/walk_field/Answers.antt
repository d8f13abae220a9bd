use Rattle.std.proofs.Common.{refl, arith}
use Rattle.std.proofs.lemmas.Bool.Decides.{nat_tests}
use Rattle.x509_check.proofs.Checks.{among_one, not_among_one}
use Rattle.x509_check.proofs.LentEntries.{so_here, so_other, so_none_left}
use Rattle.x509_check.specs.CrlWalk.{WalksAmong, WalksEntries}
use Rattle.x509_check.proofs.lent.revoked.walk_field.Goals.{in_default-via-then-rest-lt1, in_default-via-in-len1-up+else-octet-eq48}
use Rattle.x509_check.proofs.lent.revoked.walk_field.Goals as goal

pub returns-in-len1-up-clause-exact : goal.returns-in-len1-up-clause-exact
returns-in-len1-up-clause-exact g c = so_here (WalksEntries g.P.Profile.serial_check c.args.serial_number.now) (WalksAmong g.P.Profile.serial_check c.args.serial_number.now) _ _ (λ list found h. h) c.walk_sequence.result _ _ c.in-len1-up.len_at_least (among_one _ _ c.if-octet-eq48.true) c.walk_sequence.ensures.exact

pub returns-in_default-clause-exact : goal.returns-in_default-clause-exact
returns-in_default-clause-exact g c =
    elim c.in_default.branch [
      | in_default-via-then-rest-lt1 w ↦ so_none_left (WalksEntries g.P.Profile.serial_check c.args.serial_number.now) (WalksAmong g.P.Profile.serial_check c.args.serial_number.now) _ _ c.walked_none.result (rw c.walked_none.ensures.found refl, rw c.walked_none.ensures.element refl, rw c.walked_none.ensures.count refl, rw c.walked_none.ensures.has_marked refl) _ (grind (arith, nat_tests))
      | in_default-via-in-len1-up+else-octet-eq48 w ↦ so_other (WalksEntries g.P.Profile.serial_check c.args.serial_number.now) (WalksAmong g.P.Profile.serial_check c.args.serial_number.now) _ _ c.walked_none.result (rw c.walked_none.ensures.found refl, rw c.walked_none.ensures.element refl, rw c.walked_none.ensures.count refl, rw c.walked_none.ensures.has_marked refl) _ (not_among_one _ _ w.if-octet-eq48.false)
    ]
