use Rattle.std.proofs.Common.{◌≡◌, ◌+◌, ◌≤◌, length, map}
use Rattle.x509_linter.specs.Summary.{count_of}
use Rattle.x509_linter.proofs.summary.count_of.Given as goal

-- the lines so far are counted
abbrev pub invariant-loop-rest : goal.invariant-loop-rest
invariant-loop-rest l = record {
  counted : l.count + count_of l.line (map (λ other. other.now) l.rest) ≡ count_of l.line (map (λ other. other.now) l.lines);
  fits : l.count + length l.rest ≤ length l.lines;
}

abbrev pub decreases-loop-rest : goal.decreases-loop-rest
decreases-loop-rest l = length l.rest
