use Rattle.x509_prim.proofs.Naturals.{too_large}
use Rattle.x509_prim.proofs.content.digits_u128.Goals as goal

pub returns-then-high-clause-none : goal.returns-then-high-clause-none
returns-then-high-clause-none c = too_large c.loop-octet.high c.args.octets.now c.loop-octet.octet-index c.loop-octet-test.true c.if-high.true c.loop-octet.invariant
