use Rattle.x509_revocation.specs.Ages.{numbers}
use Rattle.x509_revocation.proofs.Older.{numbered, older_told}
use Rattle.x509_revocation.proofs.older_crl.is_older.Goals as goal

pub returns : goal.returns
returns c = λ x y lends lent.
    older_told x y (numbers c.in_ok-first.first) (numbers c.in_ok-second.second) c.is_below.result c.is_earlier.result (numbered x c.in_ok-first.first (c.in_ok-first.ensures x lends))
    (numbered y c.in_ok-second.second (c.in_ok-second.ensures y lent)) c.is_below.ensures (c.is_earlier.ensures x y lends lent)
