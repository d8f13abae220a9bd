use Rattle.std.proofs.lemmas.Result.{err_from_is_err_and}
use Rattle.x509_der.specs.WritingLaws.{puts_element, puts_no_element}
use Rattle.x509_c_calls.proofs.payloads.described_element.put_element.Goals as goal

pub returns-in_err-put : goal.returns-in_err-put
returns-in_err-put g c =
    let p = err_from_is_err_and c.from_residual.result c.from_residual.ensures.1 in
    rw (p.1, p.2) (puts_no_element g.R.Room.kind c.args.identifier _ _ c.in_err-put.field-0.0 c.args.room.now c.put.new.self c.in_err-put.ensures.put)

pub returns : goal.returns
returns g c = puts_element g.R.Room.kind g.met.R.Room.lawful c.args.identifier _ c.len.result c.len-before.result _ _ c.put_header.result c.args.room.now c.put.new.self c.put_header.new.room c.in_ok-put.ensures.put c.len.ensures.count c.len-before.ensures.count c.put_header.ensures
