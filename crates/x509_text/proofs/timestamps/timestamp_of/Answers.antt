use Rattle.std.proofs.Common.{arith}
use Rattle.x509_sct.specs.AnswerLaws.{whole_reading}
use Rattle.x509_sct.specs.FieldReading.{whole_at}
use Rattle.x509_sct.specs.Timestamp.{timestamp, timestamp_lawful}
use Rattle.x509_text.specs.Timestamps.{timestamp_of}
use Rattle.x509_text.proofs.Answered.{answered_value, answered_fault}
use Rattle.x509_text.proofs.timestamps.timestamp_of.Goals as goal

pub returns-in-Ok : goal.returns-in-Ok
unfolding timestamp_of
returns-in-Ok c =
    answered_value (λ x. x) _ _ (whole_at timestamp.reading c.args.octets.now) (whole_reading timestamp timestamp_lawful c.args.octets.now (λ i. omega (arith, c.type_inv.octets i))) c.in-Ok.timestamp c.in-Ok.ensures

pub returns-in_default : goal.returns-in_default
unfolding timestamp_of
returns-in_default c =
    answered_fault (λ x. x) _ _ (whole_at timestamp.reading c.args.octets.now) (whole_reading timestamp timestamp_lawful c.args.octets.now (λ i. omega (arith, c.type_inv.octets i))) c.in-Err.e c.in_default.not-Memory c.in-Err.ensures
