use Rattle.x509_cert.specs.ElementPartsLaws.{one_tbs, one_certificate}
use Rattle.x509_cert.proofs.signed.laws.one_set_of_elements.Goals as goal

pub returns : goal.returns
returns c = record { signed = one_tbs; whole = one_certificate }
