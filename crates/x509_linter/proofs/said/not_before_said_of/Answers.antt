use Rattle.x509_lint.specs.Report.{front_of}
use Rattle.x509_linter.proofs.AtNotBefore.{at}
use Rattle.x509_linter.proofs.said.not_before_said_of.Goals as goal

pub returns-in-Some-clause-ok : goal.returns-in-Some-clause-ok
returns-in-Some-clause-ok c =
    at (front_of c.args.style) c.in-Some.moment c.args.bytes.now c.lint_web_bytes.result (rw c.in-Some.is at c.in_ok-moment.ensures.ok) c.lint_web_bytes.ensures.ok
