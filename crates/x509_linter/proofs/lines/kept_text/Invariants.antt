use Rattle.std.proofs.Common.{drop, length, map}
use Rattle.x509_linter.specs.Lines.{kept_text, lines_of}
use Rattle.x509_linter.proofs.KeptLines.{KeptSo}
use Rattle.x509_linter.proofs.lines.kept_text.Given as goal

-- the lines so far are kept, or aren't
abbrev pub invariant-loop-line : goal.invariant-loop-line
invariant-loop-line l = record {
  can_next : (goal.iterator-loop-line).can_next l.line-iterator;
  is_finite : (goal.iterator-loop-line).is_finite l.line-iterator;
  kept : KeptSo (map (λ option. option.now) l.options) l.front (kept_text (map (λ option. option.now) l.options) l.front l.text) l.kept.items (drop (length l.yielded) (lines_of l.text));
}
