use Rattle.std.proofs.Common.{ap}
use Rattle.x509_der.specs.declared.error.Error.{Error}
use Rattle.x509_der.proofs.Naturals.{too_large}
use Rattle.x509_der.proofs.natural.read_natural.Goals as goal

pub returns-then-number-clause-exact : goal.returns-then-number-clause-exact
returns-then-number-clause-exact c =
    rw (ap (λ (e : Error). e.kind) c.into-then-number.ensures) (too_large c.loop-octet.number c.args.content.now c.loop-octet.octet-index c.loop-octet-test.true c.if-number.true c.loop-octet.invariant)
