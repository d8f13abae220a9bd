use Rattle.x509_cert.specs.CertPolicies.{cert_policies_stable}
use Rattle.x509_cert.proofs.anchor.laws.policy_flags_are_written_once.Goals as goal

pub returns : goal.returns
returns c = cert_policies_stable
