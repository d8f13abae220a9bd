use Rattle.std.proofs.Common.{[], ◌∷◌, None, Some, inl, inr, refl, arith}
use Rattle.std.proofs.lemmas.Bool.Decides.{nat_tests}
use Rattle.x509_check.proofs.LentFields.{optional_is}
use Rattle.x509_crl_index.proofs.LeftOut.{left_out}
use Rattle.x509_crl_index.proofs.split.take_entries.Goals.{in_default-via-then-rest-lt1, in_default-via-in-len1-up+else-octet-eq48}
use Rattle.x509_crl_index.proofs.split.take_entries.Goals as goal

pub returns-in_default : goal.returns-in_default
returns-in_default c = (
  None,
  left_out _ _ (elim c.in_default.branch [
    | in_default-via-then-rest-lt1 w ↦ inl (grind (arith, nat_tests))
    | in_default-via-in-len1-up+else-octet-eq48 w ↦ inr w.if-octet-eq48.false
  ]),
  tt,
)

pub returns-in_ok-take_list-in-len1-up : goal.returns-in_ok-take_list-in-len1-up
returns-in_ok-take_list-in-len1-up c =
    let taken = c.in_ok-take_list-in-len1-up.ensures in
    (Some taken.0, optional_is (48 ∷ []) _ _ _ taken.0 c.in-len1-up.len_at_least (rw c.if-octet-eq48.true refl) taken.1, taken.2)
