use Rattle.std.proofs.Common.{drop, length, map, ◌==◌}
use Rattle.std.specs.List.{slice_split}
use Rattle.x509_linter.specs.Summary.{whole_lines}
use Rattle.x509_linter.proofs.Summed.{TakenSo}
use Rattle.x509_linter.proofs.summary.whole_lines.Given as goal

-- the lines so far are taken
abbrev pub invariant-loop-line : goal.invariant-loop-line
invariant-loop-line l = record {
  can_next : (goal.iterator-loop-line).can_next l.line-iterator;
  is_finite : (goal.iterator-loop-line).is_finite l.line-iterator;
  taken : TakenSo (whole_lines l.text) (map (λ line. line.now) l.lines.items) (drop (length l.yielded) (slice_split (λ octet. octet == 10) l.text));
}
