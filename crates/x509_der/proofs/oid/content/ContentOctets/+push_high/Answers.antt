use Rattle.std.proofs.Common.{◌/◌, length, arith, ap, length-append}
use Rattle.x509_der.specs.Subidentifiers.{high_pushed, length-high_pushed, length-high_octets}
use Rattle.x509_der.proofs.Steps.{OnSome-then, IfNone-then}
use Rattle.std.specs.Int.Digits.{digits_of}
use Rattle.x509_der.specs.Arcs.{high_octets}
use Rattle.x509_der.proofs.oid.content.ContentOctets.+push_high.Goals as goal

pub returns-in_err-push_high-clause-none : goal.returns-in_err-push_high-clause-none
returns-in_err-push_high-clause-none t c =
    let more = length-high_pushed c.args.n (omega arith) in
    rw c.from_residual.ensures (omega (arith, c.in_err-push_high.ensures.none))

pub returns-clause-some : goal.returns-clause-some
returns-clause-some t c = OnSome-then c.push_octet.result c.push_octet.ensures.some (λ put. rw put (high_pushed c.args.self.now c.push_high.new.self c.args.n (omega arith) c.in_ok-push_high.ensures.some))

pub returns-clause-none : goal.returns-clause-none
returns-clause-none t c = IfNone-then c.push_octet.result c.push_octet.ensures.none (λ full.
    let more = length-high_pushed c.args.n (omega arith) in
    let front = ap length c.in_ok-push_high.ensures.some in
    let digits = digits_of 128 (c.args.n / 128) in
    omega (arith, length-append c.args.self.now (high_octets digits), length-high_octets digits))
