use Rattle.std.proofs.Common.{inr}
use Rattle.std.proofs.lemmas.Result.{err_from_is_err_and}
use Rattle.x509_path_steps.proofs.limits.limits_of.Goals as goal

pub returns-in_err-flags : goal.returns-in_err-flags
returns-in_err-flags c =
    let p = err_from_is_err_and c.from_residual-in_err-flags.result c.from_residual-in_err-flags.ensures.1 in
    let length = c.in_ok-max_path_length.ensures in
    rw (p.1, p.2) (inr (inr (
      (c.in_ok-constraints.constraints, c.in_ok-constraints.ensures),
      inr ((length.0, length.1), inr ((c.in_ok-policies.policies, c.in_ok-policies.ensures), c.in_err-flags.ensures)),
    )))
