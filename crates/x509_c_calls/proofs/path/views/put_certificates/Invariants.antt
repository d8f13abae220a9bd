use Rattle.x509_c_calls.specs.PathValidation.{IsCertificateOf}
use Rattle.x509_c_calls.proofs.PutPlaces.{ArePut}
use Rattle.x509_c_calls.proofs.path.views.put_certificates.Given as goal

-- those so far are put
abbrev pub invariant-loop-index : goal.invariant-loop-index
invariant-loop-index l = ArePut (λ certificate. IsCertificateOf certificate.bytes.now) l.lent l.initial.room l.room l.index
