use Rattle.x509_lint.proofs.group.add_group.Goals as goal

pub returns-clause-ok : goal.returns-clause-ok
returns-clause-ok g c = (c.in_ok-values.values, c.in_ok-values.ensures.ok, c.in_ok-add_broken.ensures)
