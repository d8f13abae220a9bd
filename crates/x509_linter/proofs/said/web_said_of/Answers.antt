use Rattle.x509_lint.specs.Report.{front_of}
use Rattle.x509_linter.proofs.AtNotBefore.{at_moment}
use Rattle.x509_linter.proofs.said.web_said_of.Goals as goal

pub returns-in-At-clause-ok : goal.returns-in-At-clause-ok
returns-in-At-clause-ok c =
    rw c.in-At.is (at_moment (front_of c.args.style) c.in-At.moment c.args.bytes.now c.lint_web_bytes.result c.lint_web_bytes.ensures.ok)
