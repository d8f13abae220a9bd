-- What was passed, from the back, names no issuer.
use Rattle.std.proofs.Common.{◌≡◌, length}
use Rattle.x509_cert.specs.Issuers.{last_issuers}
use Rattle.x509_cert.proofs.crl.issuers.last_issuer.Given as goal

abbrev pub invariant-loop-last : goal.invariant-loop-last
invariant-loop-last g l = last_issuers l.rest ≡ last_issuers l.entries

abbrev pub decreases-loop-last : goal.decreases-loop-last
decreases-loop-last g l = length l.rest
