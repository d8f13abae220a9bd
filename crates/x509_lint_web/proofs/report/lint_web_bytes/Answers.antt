use Rattle.std.proofs.Common.{◌∙◌}
use Rattle.x509_lint_web.proofs.report.lint_web_bytes.Goals as goal

pub returns-clause-ok : goal.returns-clause-ok
returns-clause-ok c = (
  c.in-Ok.certificate,
  c.in-Ok.ensures.found,
  (
    c.in_ok-values.values,
    c.in_ok-values.ensures.ok,
    (c.as_slice.result.now, c.as_slice.ensures.value ∙ c.in_ok-findings.ensures, c.in_ok-report.ensures),
  ),
)
