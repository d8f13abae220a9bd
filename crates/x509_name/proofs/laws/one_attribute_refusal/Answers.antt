use Rattle.x509_name.proofs.AttributeLaws.{reads_apart, one_refusal}
use Rattle.x509_name.proofs.laws.one_attribute_refusal.Goals as goal

pub returns-clause-apart : goal.returns-clause-apart
returns-clause-apart c = reads_apart

pub returns-clause-once : goal.returns-clause-once
returns-clause-once c = one_refusal
