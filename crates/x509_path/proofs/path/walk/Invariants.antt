use Rattle.std.proofs.Common.{Option, map}
use Rattle.x509_path.specs.Certificates.{Certificate}
use Rattle.x509_path.specs.Lent.{StandsAbove}
use Rattle.x509_path.specs.PathLength.{anchor_behind}
use Rattle.x509_path.specs.declared.anchor.Anchor.{Anchor}
use Rattle.x509_path.proofs.Places.{Passed}
use Rattle.x509_path.proofs.path.walk.Given as goal

-- what stands above is what was passed last
abbrev pub invariant-loop-index : goal.invariant-loop-index
invariant-loop-index g l =
    (anchor : Anchor) → g.T.Trust.is_anchor l.trust anchor
    → (over : Option Certificate) × StandsAbove (g.T.Trust.is_anchor l.trust) l.above (anchor_behind anchor over) × Passed (g.T.Trust.accepts l.trust) l.fn.moment anchor (map (λ input. input.now) l.path) l.index over l.max_path_length
