use Rattle.x509_base.specs.AlgorithmIdentifier.{algorithm_identifier, algorithm_identifier_lawful}
use Rattle.x509_path.proofs.Lent.{same_bytes}
use Rattle.x509_revocation.proofs.Parts.{inner_good, outer_good}
use Rattle.x509_revocation.proofs.steps.has_one_algorithm.Goals as goal

pub returns : goal.returns
returns c = λ list lends.
    rw c.eq.ensures (same_bytes algorithm_identifier algorithm_identifier_lawful list.tbs_cert_list.signature list.signature_algorithm (inner_good list c.args.crl.now.bytes.now lends) (outer_good list c.args.crl.now.bytes.now lends) c.inner_algorithm.result.now c.signature_algorithm.result.now
    (c.inner_algorithm.ensures list lends) (c.signature_algorithm.ensures list lends))
