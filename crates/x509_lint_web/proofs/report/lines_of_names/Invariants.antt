use Rattle.std.proofs.Common.{◌≡◌, flat_map, string_bytes, take}
use Rattle.x509_lint.specs.Report.{front_of}
use Rattle.x509_lint_web.specs.Report.{name_line}
use Rattle.x509_lint_web.proofs.report.lines_of_names.Given as goal

abbrev pub invariant-loop-name : goal.invariant-loop-name
invariant-loop-name l = string_bytes l.text ≡ flat_map (name_line (front_of l.style) l.rule l.fault) (take l.name-index l.names)
