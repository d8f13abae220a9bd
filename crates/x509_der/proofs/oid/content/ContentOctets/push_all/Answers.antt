use Rattle.std.proofs.Common.{take, length, arith, ap, length-append}
use Rattle.std.specs.List.{flat_map}
use Rattle.x509_der.specs.Arcs.{subidentifier}
use Rattle.x509_der.specs.Subidentifiers.{length-front}
use Rattle.x509_der.proofs.oid.content.ContentOctets.push_all.Goals as goal

pub returns-in_err-push-clause-none : goal.returns-in_err-push-clause-none
returns-in_err-push-clause-none c =
    let front = ap length c.loop-number.invariant in
    let whole = length-append c.args.self.now (flat_map subidentifier (take c.loop-number.number-index c.args.numbers.now)) in
    let part = length-front c.args.numbers.now c.loop-number.number-index (omega arith) in
    rw c.from_residual.ensures (omega (arith, c.in_err-push.ensures.none))
