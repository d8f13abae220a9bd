use Rattle.x509_der.proofs.oid.content.ContentOctets.+push_high.Given as goal

abbrev pub decreases-push_high : goal.decreases-push_high
decreases-push_high l = l.n
