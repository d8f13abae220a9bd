use Rattle.std.proofs.Common.{◌≡◌, flat_map, string_bytes, take}
use Rattle.x509_lint.specs.Report.{front_of}
use Rattle.x509_lint_web.specs.Report.{rule_lines}
use Rattle.x509_lint_web.proofs.report.lines.Given as goal

abbrev pub invariant-loop-rule : goal.invariant-loop-rule
invariant-loop-rule l = string_bytes l.text ≡ flat_map (rule_lines (front_of l.style) l.certificate l.values) (take l.rule-index l.findings)
