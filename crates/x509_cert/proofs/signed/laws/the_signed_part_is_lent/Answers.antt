use Rattle.x509_cert.specs.ElementPartsLaws.{is_signed}
use Rattle.x509_cert.proofs.signed.laws.the_signed_part_is_lent.Goals as goal

pub returns : goal.returns
returns c = is_signed
