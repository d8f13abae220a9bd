-- The first field of a list is what is signed.
use Rattle.x509_cert.proofs.laws.crls_have_a_signed_part.Goals as goal
use Rattle.x509_cert.specs.CertificateList.{certificate_list_fields}
use Rattle.x509_cert.specs.SignedLaws.{first_field_is_signed}

pub returns-clause-signed : goal.returns-clause-signed
unfolding certificate_list_fields
returns-clause-signed g c = λ list bytes spells. (first_field_is_signed _ _ _ list bytes spells).0

pub returns-clause-spelled : goal.returns-clause-spelled
unfolding certificate_list_fields
returns-clause-spelled g c = λ list bytes spells. (first_field_is_signed _ _ _ list bytes spells).1
