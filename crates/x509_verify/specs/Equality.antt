-- Equality of limits is exact.
use Rattle.std.specs.Prelude.{refl}
use Rattle.x509_der.specs.Exact.{IsExact, exact_both, exact_by, exact_number}
use Rattle.x509_verify.specs.contracts.limits.SearchLimitsPartialEq.TheImpl as limits_eq
use Rattle.x509_verify.specs.declared.limits.SearchLimits.{SearchLimits}

pub exact_limits : IsExact limits_eq.ghosts.eq
exact_limits =
    exact_by (λ (l : SearchLimits). (l.max_depth, (l.max_steps, (l.max_paths, l.max_signatures))))
    (λ (depth, (steps, (paths, signatures))). record { max_depth = depth; max_steps = steps; max_paths = paths; max_signatures = signatures })
    (λ l. refl) (exact_both exact_number (exact_both exact_number (exact_both exact_number exact_number)))
