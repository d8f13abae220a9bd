use Rattle.std.proofs.lemmas.Result.{err_from_is_err_and}
use Rattle.x509_der.specs.WritingLaws.{puts_element, puts_no_element}
use Rattle.x509_log.proofs.put.put_in_element.Goals as goal

pub returns-in_err-put_part : goal.returns-in_err-put_part
returns-in_err-put_part g c =
    let p = err_from_is_err_and c.from_residual.result c.from_residual.ensures.1 in
    rw (p.1, p.2) (puts_no_element g.R.Room.kind c.args.tag _ _ c.in_err-put_part.field-0.0 c.args.room.now c.put_part.new.room c.in_err-put_part.ensures)

pub returns : goal.returns
returns g c = puts_element g.R.Room.kind g.met.R.Room.lawful c.args.tag _ c.len.result c.len-before.result _ _ c.put_header.result c.args.room.now c.put_part.new.room c.put_header.new.room c.in_ok-put_part.ensures c.len.ensures.count c.len-before.ensures.count c.put_header.ensures
