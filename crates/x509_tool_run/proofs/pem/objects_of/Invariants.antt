use Rattle.std.proofs.Common.{None, [], drop, length, map}
use Rattle.std.specs.Option.{option_map}
use Rattle.x509_tool_run.specs.Pem.{lines_of, objects_of, trimmed}
use Rattle.x509_tool_run.proofs.PemLines.{ReadSo}
use Rattle.x509_tool_run.proofs.pem.objects_of.Given as goal

-- the lines so far are read
abbrev pub invariant-loop-line : goal.invariant-loop-line
invariant-loop-line l = record {
  can_next : (goal.iterator-loop-line).can_next l.line-iterator;
  is_finite : (goal.iterator-loop-line).is_finite l.line-iterator;
  read : ReadSo (objects_of None [] (map trimmed (lines_of l.text))) (map (λ object. object.items) l.objects.items)
      (option_map (λ label. label.now) l.label) l.digits.items (map trimmed (drop (length l.yielded) (lines_of l.text)));
}
