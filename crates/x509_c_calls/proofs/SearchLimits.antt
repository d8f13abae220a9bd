-- The limits of a search.
use Rattle.std.proofs.Common.{◌≡◌, ℕ}
use Rattle.x509_c_calls.specs.PathFinding.{search_limits}
use Rattle.x509_verify.specs.declared.limits.SearchLimits.{SearchLimits}

pub same_limits : (max_depth steps paths : ℕ) → steps ≡ 200000 → paths ≡ 1000
    → ◌≡◌ {A = SearchLimits} (record { max_depth = max_depth; max_steps = steps; max_paths = paths; max_signatures = 4294967295 }) (search_limits max_depth)
same_limits max_depth steps paths is so = cc
