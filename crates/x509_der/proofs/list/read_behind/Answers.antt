use Rattle.std.proofs.Common.{◌≡◌, ◌<◌, [], ◌∷◌, length, arith}
use Rattle.std.proofs.lemmas.Bool.Decides.{nat_tests}
use Rattle.std.proofs.lemmas.Result.{err_from_is_err_and}
use Rattle.x509_der.specs.List.{list_reading, with_front}
use Rattle.x509_der.specs.ListLaws.{field_shorter, goes_on, all_read, ends_refused}
use Rattle.x509_der.proofs.list.read_behind.Goals as goal

pub returns-in_err-item : goal.returns-in_err-item
returns-in_err-item g c =
    let p = err_from_is_err_and c.from_residual.result c.from_residual.ensures.1 in
    let r = g.T.Grammar.form.reading in
    let more : 0 < length c.loop-rest.rest.now = grind (arith, nat_tests) in
    record { exact = rw (p.1, p.2) (ends_refused c.in_err-item.field-0.0.kind r c.loop-rest.items.items c.loop-rest.rest.now (with_front c.args.items.items (list_reading r c.args.bytes.now)) c.in_err-item.ensures.exact more c.loop-rest.invariant) }

pub loop-rest-smaller : goal.loop-rest-smaller
loop-rest-smaller g c = field_shorter g.T.Grammar.form.reading c.loop-rest.rest.now c.in_ok-item.item c.read_field.new.rest.now c.in_ok-item.ensures.exact

pub loop-rest-preserved : goal.loop-rest-preserved
loop-rest-preserved g c = rw c.in_ok-push.ensures.items (goes_on g.T.Grammar.form.reading c.loop-rest.items.items c.loop-rest.rest.now c.read_field.new.rest.now c.in_ok-item.item (with_front c.args.items.items (list_reading g.T.Grammar.form.reading c.args.bytes.now)) c.in_ok-item.ensures.exact c.loop-rest.invariant)

pub returns : goal.returns
returns g c =
    let none : length c.loop-rest.rest.now ≡ 0 = grind (arith, nat_tests) in
    record { exact = all_read g.T.Grammar.form.reading c.loop-rest.items.items c.loop-rest.rest.now (with_front c.args.items.items (list_reading g.T.Grammar.form.reading c.args.bytes.now)) none c.loop-rest.invariant }
