use Rattle.std.proofs.Common.{arith}
use Rattle.x509_c_calls.proofs.ChainWalks.{is_front, no_front}
use Rattle.x509_c_calls.proofs.log.chain.take_vector.Goals as goal

pub returns-in-Ok : goal.returns-in-Ok
returns-in-Ok c = is_front c.args.bytes.now c.in-Ok.octets.now c.in-Ok.rest.now (λ i. omega (arith, c.type_inv.bytes i)) c.in-Ok.ensures.exact

pub returns-in-Err : goal.returns-in-Err
returns-in-Err c = λ octets more good is. no_front c.args.bytes.now octets more c.in-Err.field-0 c.in-Err.ensures.exact c.in-Err.ensures.err good is
