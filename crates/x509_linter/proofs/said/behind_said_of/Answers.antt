use Rattle.x509_linter.proofs.said.behind_said_of.Goals as goal

pub returns-in_ok-report-in-Some-clause-ok : goal.returns-in_ok-report-in-Some-clause-ok
returns-in_ok-report-in-Some-clause-ok c = (c.in-Some.second, rw c.in-Some.is at c.in_ok-second.ensures.ok, c.in_ok-report-in-Some.ensures)
