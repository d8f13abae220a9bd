use Rattle.std.proofs.Common.{◌≡◌, flat_map, string_bytes, take}
use Rattle.x509_lint.specs.Report.{front_of, line_of}
use Rattle.x509_lint.proofs.report.lines.Given as goal

abbrev pub invariant-loop-rule : goal.invariant-loop-rule
invariant-loop-rule g l = string_bytes l.text ≡ flat_map (line_of (front_of l.style) g.T.Linted.word (g.T.Linted.seen l.object)) (take l.rule-index l.findings)
