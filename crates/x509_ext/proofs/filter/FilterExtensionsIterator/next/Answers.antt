use Rattle.x509_ext.proofs.filter.FilterExtensionsIterator.next.Goals as goal

-- the first that is left
pub returns-clause-steps : goal.returns-clause-steps
returns-clause-steps g c = (c.in_ok-extension.extension.now, rw c.OID.ensures at c.in_ok-extension.ensures, c.decode.ensures)
