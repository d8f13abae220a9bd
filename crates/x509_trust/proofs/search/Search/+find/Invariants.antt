use Rattle.x509_trust.proofs.search.Search.+find.Given as goal

abbrev pub decreases-find : goal.decreases-find
decreases-find g l = l.left
