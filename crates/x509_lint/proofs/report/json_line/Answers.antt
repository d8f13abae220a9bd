use Rattle.x509_lint.proofs.report.json_line.Goals as goal

pub returns : goal.returns
returns c = λ wording says. rw (c.in_ok-what.ensures.ok, c.in_ok-place.ensures.ok, says.0, says.1, says.2, says.3, says.4) at c.format-3.ensures.ok
