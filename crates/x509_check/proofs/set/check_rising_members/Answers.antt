use Rattle.std.proofs.Common.{◌≡◌, ◌<◌, length, sym, ◌∙◌, arith}
use Rattle.std.proofs.lemmas.Bool.Decides.{nat_tests}
use Rattle.std.proofs.lemmas.Result.{err_from_is_err_and}
use Rattle.x509_check.proofs.Rising.{step, set_same, ends_rising, ends_falling, ends_refused}
use Rattle.x509_der.specs.ListLaws.{field_shorter}
use Rattle.x509_der.specs.Form.{spelling}
use Rattle.x509_check.proofs.set.check_rising_members.Goals as goal

pub returns-in_err-member : goal.returns-in_err-member
returns-in_err-member g c =
    let f = g.T.Grammar.form in
    let p = err_from_is_err_and c.from_residual.result c.from_residual.ensures.1 in
    let more : 0 < length c.loop-rest.rest.now = grind (arith, nat_tests) in
    let same = set_same f g.T.Encode.writing g.T.ValueOrd.order g.met.T.ValueOrd.ordered g.met.T.Grammar.lawful g.met.T.CheckMember.as_it_is c.args.bytes.now c.requires in
    rw (p.1, p.2) (sym same ∙ ends_refused (spelling f) f.reading c.loop-rest.rises c.loop-rest.last.now c.loop-rest.rest.now c.in_err-member.field-0.0.kind _ c.in_err-member.ensures.taken more c.loop-rest.invariant.same)

pub loop-rest-smaller : goal.loop-rest-smaller
loop-rest-smaller g c =
    let p = c.in_ok-member.ensures.taken in
    field_shorter g.T.Grammar.form.reading c.loop-rest.rest.now p.0 c.take_member.new.rest.now p.1

pub loop-rest-preserved : goal.loop-rest-preserved
loop-rest-preserved g c =
    let f = g.T.Grammar.form in
    let p = c.in_ok-member.ensures.taken in record {
      within = omega arith;
      same = step (spelling f) f.reading c.loop-rest.rises c.rises_on-rises.result c.loop-rest.last.now c.in_ok-member.member.now c.loop-rest.rest.now c.take_member.new.rest.now p.0 _ p.1 p.2 c.rises_on-rises.ensures c.loop-rest.invariant.same;
    }

pub returns-then-not-rises : goal.returns-then-not-rises
returns-then-not-rises g c =
    let f = g.T.Grammar.form in
    let none : length c.loop-rest.rest.now ≡ 0 = grind (arith, nat_tests) in
    let same = set_same f g.T.Encode.writing g.T.ValueOrd.order g.met.T.ValueOrd.ordered g.met.T.Grammar.lawful g.met.T.CheckMember.as_it_is c.args.bytes.now c.requires in
    rw c.into.ensures (sym same ∙ ends_falling (spelling f) f.reading c.loop-rest.last.now c.loop-rest.rest.now _ none (rw c.if-not-rises.true at c.loop-rest.invariant.same))

pub returns : goal.returns
returns g c =
    let f = g.T.Grammar.form in
    let none : length c.loop-rest.rest.now ≡ 0 = grind (arith, nat_tests) in
    let same = set_same f g.T.Encode.writing g.T.ValueOrd.order g.met.T.ValueOrd.ordered g.met.T.Grammar.lawful g.met.T.CheckMember.as_it_is c.args.bytes.now c.requires in
    sym same ∙ ends_rising (spelling f) f.reading c.loop-rest.last.now c.loop-rest.rest.now _ none (rw c.if-not-rises.false at c.loop-rest.invariant.same)
