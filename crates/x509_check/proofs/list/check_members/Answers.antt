use Rattle.std.proofs.Common.{◌≡◌, ◌<◌, length, sym, ◌∙◌, arith}
use Rattle.std.proofs.lemmas.Bool.Decides.{nat_tests}
use Rattle.std.proofs.lemmas.Result.{err_from_is_err_and}
use Rattle.x509_check.proofs.Checks.{one_more, refused_at, none_left}
use Rattle.x509_der.specs.ListLaws.{field_shorter}
use Rattle.x509_check.proofs.list.check_members.Goals as goal

pub returns-in_err-check_field : goal.returns-in_err-check_field
returns-in_err-check_field g c =
    let p = err_from_is_err_and c.from_residual.result c.from_residual.ensures.1 in
    let more : 0 < length c.loop-rest.rest.now = grind (arith, nat_tests) in
    rw (p.1, p.2) (sym c.loop-rest.invariant.same ∙ refused_at g.T.Grammar.form.reading c.loop-rest.rest.now c.in_err-check_field.field-0.0.kind c.in_err-check_field.ensures.exact more)

pub loop-rest-smaller : goal.loop-rest-smaller
loop-rest-smaller g c =
    let p = c.in_ok-check_field.ensures.exact in
    field_shorter g.T.Grammar.form.reading c.loop-rest.rest.now p.0 c.check_field.new.rest.now p.1

pub loop-rest-preserved : goal.loop-rest-preserved
loop-rest-preserved g c =
    let p = c.in_ok-check_field.ensures.exact in record {
      within = omega arith;
      same = one_more g.T.Grammar.form.reading c.loop-rest.rest.now c.check_field.new.rest.now p.0 p.1 ∙ c.loop-rest.invariant.same;
    }

pub returns : goal.returns
returns g c =
    let none : length c.loop-rest.rest.now ≡ 0 = grind (arith, nat_tests) in
    sym c.loop-rest.invariant.same ∙ none_left g.T.Grammar.form.reading c.loop-rest.rest.now none
