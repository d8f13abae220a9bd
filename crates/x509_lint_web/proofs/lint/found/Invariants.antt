use Rattle.std.proofs.Common.{◌≡◌, filter, take}
use Rattle.x509_lint_web.specs.Rules.{is_found}
use Rattle.x509_lint_web.proofs.lint.found.Given as goal

abbrev pub invariant-loop-rule : goal.invariant-loop-rule
invariant-loop-rule l = l.findings.items ≡ filter (is_found l.moment l.certificate l.values) (take l.rule-index l.rules)
