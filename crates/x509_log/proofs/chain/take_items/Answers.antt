use Rattle.std.proofs.Common.{◌≡◌, ◌<◌, length, arith}
use Rattle.std.proofs.lemmas.Bool.Decides.{nat_tests}
use Rattle.std.proofs.lemmas.Result.{err_from_is_err_and}
use Rattle.x509_sct.specs.Items.{items_reading}
use Rattle.x509_sct.specs.ItemsLaws.{goes_on, all_read, ends_refused}
use Rattle.x509_log.proofs.chain.take_items.Goals as goal

pub returns-in_err-item : goal.returns-in_err-item
returns-in_err-item g c =
    let p = err_from_is_err_and c.from_residual.result c.from_residual.ensures.1 in
    let r = g.T.Tls.form.reading in
    let more : 0 < length c.loop-rest.rest.now = grind (arith, nat_tests) in
    rw (p.1, p.2) (ends_refused c.in_err-item.field-0.0 r c.loop-rest.items.items c.loop-rest.rest.now (items_reading r c.args.bytes.now) c.in_err-item.ensures.exact more c.loop-rest.invariant)

pub loop-rest-preserved : goal.loop-rest-preserved
loop-rest-preserved g c = rw c.in_ok-push.ensures.items (goes_on g.T.Tls.form.reading g.met.T.TlsItem.moves c.loop-rest.items.items c.loop-rest.rest.now c.in_ok-item.after.now c.in_ok-item.item (items_reading g.T.Tls.form.reading c.args.bytes.now) c.in_ok-item.ensures.exact c.loop-rest.invariant)

pub returns : goal.returns
returns g c =
    let none : length c.loop-rest.rest.now ≡ 0 = grind (arith, nat_tests) in
    all_read g.T.Tls.form.reading c.loop-rest.items.items c.loop-rest.rest.now (items_reading g.T.Tls.form.reading c.args.bytes.now) none c.loop-rest.invariant
