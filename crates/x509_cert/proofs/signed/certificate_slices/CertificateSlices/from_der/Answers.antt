use Rattle.x509_cert.specs.ElementPartsLaws.{certificate_answer}
use Rattle.x509_cert.proofs.signed.certificate_slices.CertificateSlices.from_der.Goals as goal

pub returns-clause-found : goal.returns-clause-found
returns-clause-found c = (certificate_answer _ (rw c.as_u32.ensures.octets at c.if-bytes-as_u32.false) _ c.read_certificate.ensures.exact c.read_certificate.ensures.err).0

pub returns-clause-refused : goal.returns-clause-refused
returns-clause-refused c = λ within. (certificate_answer _ within _ c.read_certificate.ensures.exact c.read_certificate.ensures.err).1

pub returns-clause-one : goal.returns-clause-one
returns-clause-one c = (certificate_answer _ (rw c.as_u32.ensures.octets at c.if-bytes-as_u32.false) _ c.read_certificate.ensures.exact c.read_certificate.ensures.err).2
