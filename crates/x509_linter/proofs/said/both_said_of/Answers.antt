use Rattle.x509_lint.specs.Report.{front_of}
use Rattle.x509_linter.proofs.Both.{behind_first, no_certificate}
use Rattle.x509_linter.proofs.said.both_said_of.Goals as goal

pub returns-in-Some-clause-ok : goal.returns-in-Some-clause-ok
returns-in-Some-clause-ok c =
    behind_first c.args.moment (front_of c.args.style) c.args.bytes.now c.in-Some.first (rw c.in-Some.is at c.in_ok-first.ensures.ok) c.behind_said_of.result c.behind_said_of.ensures.ok

pub returns-in-None-clause-ok : goal.returns-in-None-clause-ok
returns-in-None-clause-ok c = no_certificate (front_of c.args.style) c.args.bytes.now (rw c.in-None.is at c.in_ok-first.ensures.ok)
