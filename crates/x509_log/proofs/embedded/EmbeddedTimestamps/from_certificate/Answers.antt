use Rattle.std.proofs.Common.{inr}
use Rattle.x509_log.proofs.Refusals.{err_by}
use Rattle.x509_log.proofs.embedded.EmbeddedTimestamps.from_certificate.Goals as goal

pub returns-clause-found : goal.returns-clause-found
returns-clause-found g c = λ value above s t. record {
  one = (c.in_ok-part.ensures.found value s).0;
  octets = rw c.in_ok-tbs_certificate.ensures.ok.0 (c.in_ok-part.ensures.found value s).1;
  key_hash = c.issuer_key_hash.ensures above t;
  timestamps = c.in_ok-timestamps.ensures.found value s;
}

pub returns-in_err-timestamps-clause-refused : goal.returns-in_err-timestamps-clause-refused
returns-in_err-timestamps-clause-refused g c =
    err_by c.from_residual-in_err-timestamps.result _ _ c.from_residual-in_err-timestamps.ensures.1
    (λ e is value spells. inr (rw is (c.in_err-timestamps.ensures.refused value spells (c.in_ok-part.ensures.found value spells).0)))
