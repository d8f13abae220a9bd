use Rattle.x509_lint.proofs.certificate.add_first.Goals as goal

pub returns : goal.returns
returns c = rw (c.in_ok-add_broken-4.ensures, c.in_ok-add_broken-3.ensures, c.in_ok-add_broken-2.ensures, c.in_ok-add_broken.ensures) at c.add_broken-5.ensures
