use Rattle.std.proofs.Common.{drop, map}
use Rattle.x509_linter.specs.Summary.{tally}
use Rattle.x509_linter.proofs.Summed.{ToldSo}
use Rattle.x509_linter.proofs.summary.tally.Given as goal

-- it is told of the lines so far
abbrev pub invariant-loop-line : goal.invariant-loop-line
invariant-loop-line l = ToldSo (map (λ line. line.now) l.lines) (tally (map (λ line. line.now) l.lines)) l.text.items (map (λ line. line.now) l.told.items) (map (λ line. line.now) (drop l.line-index l.lines))
