use Rattle.std.proofs.Common.{sym, ◌∙◌}
use Rattle.x509_constraints.specs.Uri.{ends_authority}
use Rattle.x509_constraints.proofs.Firsts.{first_at, none_at}
use Rattle.x509_constraints.proofs.uri.authority_len.Goals as goal

pub returns-then-ends_authority-clause-at : goal.returns-then-ends_authority-clause-at
returns-then-ends_authority-clause-at c =
    first_at ends_authority c.args.rest.now c.loop-i.i c.loop-i-test.true c.loop-i.invariant (sym c.ends_authority.ensures ∙ c.if-ends_authority.true)

pub returns-clause-at : goal.returns-clause-at
returns-clause-at c = none_at ends_authority c.args.rest.now c.loop-i.i c.loop-i-test.false c.loop-i.invariant
