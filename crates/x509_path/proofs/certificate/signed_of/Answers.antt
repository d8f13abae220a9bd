use Rattle.x509_path.proofs.Lent.{bits_spells, outer_spells}
use Rattle.x509_path.proofs.certificate.signed_of.Goals as goal

pub returns-clause-algorithm : goal.returns-clause-algorithm
returns-clause-algorithm c = λ certificate lends. outer_spells certificate c.args.certificate.now.bytes.now lends c.signature_algorithm.result.now (c.signature_algorithm.ensures certificate lends)

pub returns-clause-signature : goal.returns-clause-signature
returns-clause-signature c = λ certificate lends. bits_spells certificate c.args.certificate.now.bytes.now lends c.signature.result.now (c.signature.ensures certificate lends)
