-- The first field of a request is what is signed.
use Rattle.x509_cert.proofs.laws.requests_have_a_signed_part.Goals as goal
use Rattle.x509_cert.specs.CertReq.{cert_req_fields}
use Rattle.x509_cert.specs.SignedLaws.{first_field_is_signed}

pub returns-clause-signed : goal.returns-clause-signed
unfolding cert_req_fields
returns-clause-signed c = λ request bytes spells. (first_field_is_signed _ _ _ request bytes spells).0

pub returns-clause-spelled : goal.returns-clause-spelled
unfolding cert_req_fields
returns-clause-spelled c = λ request bytes spells. (first_field_is_signed _ _ _ request bytes spells).1
