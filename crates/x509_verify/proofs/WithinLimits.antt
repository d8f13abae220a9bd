-- A search that ends within its limits.
use Rattle.std.proofs.Common.{◌≡◌, ◌+◌, ◌<◌, ◌≤◌, ℕ, suc, List, [], ◌∷◌, Option, Some, None, Ok, Err, arith}
use Rattle.x509_verify.specs.Effort.{Effort, IsOverLimits, IsWithinLimits, KeepsLimits, OfPathsBelow}
use Rattle.x509_verify.specs.Found.{told_by}
use Rattle.x509_verify.specs.Progress.{Lacks, Takes}
use Rattle.x509_verify.specs.declared.anchors.Anchors.{Anchors}
use Rattle.x509_verify.specs.declared.limits.SearchLimits.{SearchLimits}
use Rattle.x509_verify.specs.declared.pool.Pool.{Pool}
use Rattle.x509_verify.specs.declared.refusal.Refusal.{Refusal}

-- as many steps, paths and signatures as are allowed
abbrev pub allowed : SearchLimits → Effort
allowed limits = record { steps = limits.max_steps; paths = limits.max_paths; signatures = limits.max_signatures }

pub within_limits : (limits : SearchLimits) (after effort : Effort) → Takes (allowed limits) after effort → IsWithinLimits limits effort
within_limits limits after effort took = (omega (arith, took.steps), omega (arith, took.paths))

pub none_keeps : (anchors : Anchors) (pool : Pool) (limits : SearchLimits) (leaf : List ℕ) (refusal : Option Refusal)
    → OfPathsBelow anchors pool (suc limits.max_depth) leaf (IsWithinLimits limits) → KeepsLimits anchors pool limits leaf (Err (told_by refusal))
none_keeps anchors pool limits leaf None all = all
none_keeps anchors pool limits leaf (Some told) all = all
