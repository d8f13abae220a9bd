use Rattle.std.proofs.Common.{arith}
use Rattle.std.proofs.lemmas.Result.{err_from_is_err_and}
use Rattle.x509_der.proofs.Naturals.{stands_first, stands_next, stands_refused, stands_last}
use Rattle.x509_der.proofs.natural.put_natural.Goals as goal

pub loop-rest-init : goal.loop-rest-init
loop-rest-init g c = stands_first g.R.Room.kind g.met.R.Room.lawful c.args.number c.args.room.now (omega arith)

pub returns-in_err-put : goal.returns-in_err-put
returns-in_err-put g c =
    let p = err_from_is_err_and c.from_residual.result c.from_residual.ensures.1 in
    rw (p.1, p.2) (stands_refused g.R.Room.kind g.met.R.Room.lawful c.args.number c.loop-rest.rest c.in_err-put.field-0.0 c.args.room.now c.loop-rest.room c.put.new.self c.loop-rest-test.true c.loop-rest.invariant c.in_err-put.ensures.put)

pub loop-rest-preserved : goal.loop-rest-preserved
loop-rest-preserved g c = stands_next g.R.Room.kind g.met.R.Room.lawful c.args.number c.loop-rest.rest c.args.room.now c.loop-rest.room c.put.new.self c.loop-rest-test.true c.loop-rest.invariant c.in_ok-put.ensures.put

pub returns : goal.returns
returns g c = stands_last g.R.Room.kind g.met.R.Room.lawful c.args.number c.loop-rest.rest c.put-2.result c.args.room.now c.loop-rest.room c.put-2.new.self c.loop-rest-test.false c.loop-rest.invariant c.put-2.ensures.put
