use Rattle.std.proofs.Common.{◌-◌, arith, Err, Ok}
use Rattle.std.proofs.lemmas.Result.{err_from_is_err_and}
use Rattle.x509_der.specs.ListWriting.{puts_end, puts_member, puts_no_members}
use Rattle.x509_der.specs.Writing.{plain, writes}
use Rattle.x509_name.specs.Names.{relative_distinguished_name}
use Rattle.x509_name.proofs.name.short.put_rdns.Goals as goal

pub loop-i-init : goal.loop-i-init
loop-i-init g c = record { stand = puts_end relative_distinguished_name (writes plain) g.R.Room.kind g.met.R.Room.lawful c.args.rdns.now c.args.room.now; within = omega arith }

pub loop-i-preserved : goal.loop-i-preserved
loop-i-preserved g c = record {
  stand = puts_member relative_distinguished_name (writes plain) g.R.Room.kind g.met.R.Room.lawful c.args.rdns.now c.loop-i.i c.index-rdns-i.result (Ok tt) c.args.room.now c.loop-i.room c.put_rdn.new.room c.loop-i-test.true c.loop-i.invariant.within c.index-rdns-i.is c.loop-i.invariant.stand c.in_ok-put_rdn.ensures;
  within = omega arith;
}

pub returns-in_err-put_rdn : goal.returns-in_err-put_rdn
returns-in_err-put_rdn g c =
    let p = err_from_is_err_and c.from_residual.result c.from_residual.ensures.1 in
    let k = puts_member relative_distinguished_name (writes plain) g.R.Room.kind g.met.R.Room.lawful c.args.rdns.now c.loop-i.i c.index-rdns-i.result (Err c.in_err-put_rdn.field-0.0) c.args.room.now c.loop-i.room c.put_rdn.new.room c.loop-i-test.true c.loop-i.invariant.within c.index-rdns-i.is c.loop-i.invariant.stand c.in_err-put_rdn.ensures in
    rw (p.1, p.2) (puts_no_members relative_distinguished_name (writes plain) g.R.Room.kind (c.loop-i.i - 1) c.args.rdns.now _ c.args.room.now c.put_rdn.new.room k)
