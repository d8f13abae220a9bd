use Rattle.x509_cert.proofs.CertificateSignedPart.{stands, signed_spells}
use Rattle.x509_cert.proofs.certificate.laws.signed_bytes_spell_the_signed_part.Goals as goal

pub returns-clause-found : goal.returns-clause-found
returns-clause-found g c = λ v bytes spells. (stands _ v bytes spells).0

pub returns-clause-spells : goal.returns-clause-spells
returns-clause-spells g c = λ v bytes signed spells part. signed_spells _ v bytes spells signed part
