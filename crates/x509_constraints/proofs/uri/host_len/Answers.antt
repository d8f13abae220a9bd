use Rattle.std.proofs.Common.{◌==◌, eq-eqb}
use Rattle.x509_constraints.proofs.Firsts.{first_at, none_at}
use Rattle.x509_constraints.proofs.uri.host_len.Goals as goal

pub returns-then-authority-i-eq58-clause-at : goal.returns-then-authority-i-eq58-clause-at
returns-then-authority-i-eq58-clause-at c =
    first_at (λ octet. octet == 0x3A) c.args.authority.now c.loop-i.i c.loop-i-test.true c.loop-i.invariant (eq-eqb _ _ c.if-authority-i-eq58.true)

pub returns-clause-at : goal.returns-clause-at
returns-clause-at c = none_at (λ octet. octet == 0x3A) c.args.authority.now c.loop-i.i c.loop-i-test.false c.loop-i.invariant
