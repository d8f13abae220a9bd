use Rattle.x509_revocation.specs.LentFound.{placed_entry}
use Rattle.x509_revocation.proofs.steps.Asked.steps_i_to_l.Goals as goal

pub returns-in-Ok-Some : goal.returns-in-Ok-Some
returns-in-Ok-Some g c = λ certificate all complete lends lent whole at.
    let found = rw c.in-Ok-Some.field-0-is at (c.in-Ok-Some.ensures certificate all complete c.args.own.now.place lends lent whole) in
    (placed_entry c.in-Ok-Some.found, found, c.steps_k_l.ensures)

pub returns-in-Ok-None : goal.returns-in-Ok-None
returns-in-Ok-None g c = λ certificate all complete lends lent whole at.
    let found = rw c.in-Ok-None.field-0-is at (c.in-Ok-None.ensures certificate all complete c.args.own.now.place lends lent whole) in
    (placed_entry c.args.own.now, found (placed_entry c.args.own.now) at, c.steps_k_l-in-Ok-None.ensures)
