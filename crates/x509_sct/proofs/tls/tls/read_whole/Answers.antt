use Rattle.std.proofs.Common.{arith}
use Rattle.x509_sct.specs.AnswerLaws.{answered, whole_reading}
use Rattle.x509_sct.proofs.tls.tls.read_whole.Goals as goal

pub returns : goal.returns
returns g c = answered (λ x. x) _ _ _ _ c.take_whole.result (whole_reading g.T.Tls.form g.met.T.Tls.lawful c.args.bytes.now (λ i. omega (arith, c.type_inv.bytes i))) c.take_whole.ensures.exact c.take_whole.ensures.memory
