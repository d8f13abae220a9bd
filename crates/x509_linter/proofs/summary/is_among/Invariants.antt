use Rattle.std.proofs.Common.{◌≡◌, length, map}
use Rattle.x509_linter.specs.Summary.{is_among}
use Rattle.x509_linter.proofs.summary.is_among.Given as goal

abbrev pub invariant-loop-rest : goal.invariant-loop-rest
invariant-loop-rest l = is_among l.line (map (λ other. other.now) l.rest) ≡ is_among l.line (map (λ other. other.now) l.others)

abbrev pub decreases-loop-rest : goal.decreases-loop-rest
decreases-loop-rest l = length l.rest
