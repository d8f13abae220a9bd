use Rattle.std.proofs.Common.{Some, None, refl, arith}
use Rattle.std.proofs.lemmas.Bool.Decides.{nat_tests}
use Rattle.std.proofs.lemmas.Result.{err_from_is_err_and}
use Rattle.x509_check.proofs.Checks.{among_one, not_among_one}
use Rattle.x509_check.proofs.LentFields.{optional_at_end, optional_is, optional_left_out, optional_refused}
use Rattle.x509_check.proofs.lent.checked.take_optional_explicit.Goals.{in_default-via-then-rest-lt1, in_default-via-in-len1-up+else-octet-n}
use Rattle.x509_check.proofs.lent.checked.take_optional_explicit.Goals as goal

pub returns-in_err-lent-in-len1-up-clause-exact : goal.returns-in_err-lent-in-len1-up-clause-exact
returns-in_err-lent-in-len1-up-clause-exact g c =
    let p = err_from_is_err_and c.from_residual.result c.from_residual.ensures.1 in
    rw (p.1, p.2) (optional_refused _ _ _ _ c.in-len1-up.len_at_least (among_one _ _ c.if-octet-n.true) c.in_err-lent-in-len1-up.ensures.exact)

pub returns-in_ok-lent-in-len1-up-clause-exact : goal.returns-in_ok-lent-in-len1-up-clause-exact
returns-in_ok-lent-in-len1-up-clause-exact g c =
    let read = c.in_ok-lent-in-len1-up.ensures.exact in
    (Some read.0, optional_is _ _ _ _ read.0 c.in-len1-up.len_at_least (among_one _ _ c.if-octet-n.true) read.1, rw read.2 refl)

pub returns-in_default-clause-exact : goal.returns-in_default-clause-exact
returns-in_default-clause-exact g c =
    elim c.in_default.branch [
      | in_default-via-then-rest-lt1 w ↦ (None, optional_at_end _ _ _ (grind (arith, nat_tests)), refl)
      | in_default-via-in-len1-up+else-octet-n w ↦ (None, optional_left_out _ _ _ (not_among_one _ _ w.if-octet-n.false), refl)
    ]
