use Rattle.std.proofs.Common.{arith}
use Rattle.x509_sct.specs.ItemsLaws.{items_lawful, counted_moves}
use Rattle.x509_sct.specs.ListLaws.{list_lawful}
use Rattle.x509_sct.specs.Lists.{list_reading}
use Rattle.x509_sct.specs.Numbers.{uint16, uint16_moves, vector16, vector16_lawful}
use Rattle.x509_text.specs.Timestamps.{serialized_in}
use Rattle.x509_text.proofs.Answered.{answered_value, answered_fault}
use Rattle.x509_text.proofs.timestamps.serialized_in.Goals as goal

pub returns-in-Ok : goal.returns-in-Ok
unfolding serialized_in
returns-in-Ok c =
    let items = items_lawful vector16 vector16_lawful (counted_moves uint16.reading uint16_moves) in
    answered_value (λ v. v.items) _ _ (list_reading uint16.reading vector16.reading c.args.octets.now) (list_lawful uint16 vector16 vector16_lawful items c.args.octets.now (λ i. omega (arith, c.type_inv.octets i))) c.in-Ok.list c.in-Ok.ensures

pub returns-in_default : goal.returns-in_default
unfolding serialized_in
returns-in_default c =
    let items = items_lawful vector16 vector16_lawful (counted_moves uint16.reading uint16_moves) in
    answered_fault (λ v. v.items) _ _ (list_reading uint16.reading vector16.reading c.args.octets.now) (list_lawful uint16 vector16 vector16_lawful items c.args.octets.now (λ i. omega (arith, c.type_inv.octets i))) c.in-Err.e c.in_default.not-Memory c.in-Err.ensures
