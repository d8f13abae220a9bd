use Rattle.std.proofs.Common.{◌+◌, ℕ, List, [], ◌∷◌, length, None, refl}
use Rattle.std.proofs.lemmas.Result.{err_from_is_err_and}
use Rattle.x509_der.specs.WritingLaws.{puts_after, puts_not}
use Rattle.x509_name.proofs.ShortRdns.{headers, short_rdn}
use Rattle.x509_name.proofs.name.short.put_short.Goals as goal

pub returns-in_err-put : goal.returns-in_err-put
returns-in_err-put g c =
    let p = err_from_is_err_and c.from_residual.result c.from_residual.ensures.1 in
    let n = length c.args.content.now in
    rw (p.1, p.2, short_rdn c.args.a c.args.b c.args.c c.args.tag n c.args.content.now refl c.requires) (puts_not g.R.Room.kind (headers c.args.a c.args.b c.args.c c.args.tag n) c.args.content.now None None c.in_err-put.field-0.0 c.args.room.now c.put.new.self c.in_err-put.ensures.put)

pub returns : goal.returns
returns g c =
    let n = length c.args.content.now in
    rw (short_rdn c.args.a c.args.b c.args.c c.args.tag n c.args.content.now refl c.requires) (puts_after g.R.Room.kind g.met.R.Room.lawful (headers c.args.a c.args.b c.args.c c.args.tag n) c.args.content.now None None tt c.put-2.result c.args.room.now c.put.new.self c.put-2.new.self c.in_ok-put.ensures.put c.put-2.ensures.put)
