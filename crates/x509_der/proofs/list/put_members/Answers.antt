use Rattle.std.proofs.Common.{◌-◌, arith, Err, Ok}
use Rattle.std.proofs.lemmas.Result.{err_from_is_err_and}
use Rattle.x509_der.specs.ListWriting.{puts_end, puts_member, puts_no_members}
use Rattle.x509_der.specs.Writing.{writes}
use Rattle.x509_der.proofs.list.put_members.Goals as goal

pub loop-i-init : goal.loop-i-init
loop-i-init g c = record { stand = puts_end g.T.Grammar.form (writes g.T.Encode.writing) g.R.Room.kind g.met.R.Room.lawful c.args.items.now c.args.room.now; within = omega arith }

pub loop-i-preserved : goal.loop-i-preserved
loop-i-preserved g c = record {
  stand = puts_member g.T.Grammar.form (writes g.T.Encode.writing) g.R.Room.kind g.met.R.Room.lawful c.args.items.now c.loop-i.i c.index-items-i.result (Ok tt) c.args.room.now c.loop-i.room c.put_element.new.room c.loop-i-test.true c.loop-i.invariant.within c.index-items-i.is c.loop-i.invariant.stand c.in_ok-put_element.ensures;
  within = omega arith;
}

pub returns-in_err-put_element : goal.returns-in_err-put_element
returns-in_err-put_element g c =
    let p = err_from_is_err_and c.from_residual.result c.from_residual.ensures.1 in
    let k = puts_member g.T.Grammar.form (writes g.T.Encode.writing) g.R.Room.kind g.met.R.Room.lawful c.args.items.now c.loop-i.i c.index-items-i.result (Err c.in_err-put_element.field-0.0) c.args.room.now c.loop-i.room c.put_element.new.room c.loop-i-test.true c.loop-i.invariant.within c.index-items-i.is c.loop-i.invariant.stand c.in_err-put_element.ensures in
    rw (p.1, p.2) (puts_no_members g.T.Grammar.form (writes g.T.Encode.writing) g.R.Room.kind (c.loop-i.i - 1) c.args.items.now _ c.args.room.now c.put_element.new.room k)
