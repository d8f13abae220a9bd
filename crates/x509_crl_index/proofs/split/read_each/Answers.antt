use Rattle.std.proofs.Common.{◌≡◌, ◌<◌, ◌++◌, [], ◌∷◌, length, arith}
use Rattle.std.proofs.lemmas.Bool.Decides.{nat_tests}
use Rattle.std.proofs.lemmas.Result.{err_from_is_err_and}
use Rattle.x509_der.specs.ListLaws.{all_read, ends_refused, field_shorter, goes_on}
use Rattle.x509_crl_index.specs.Split.{read_entry}
use Rattle.x509_crl_index.proofs.split.read_each.Goals as goal

pub loop-rest-smaller : goal.loop-rest-smaller
loop-rest-smaller c = field_shorter read_entry _ _ _ c.in_ok-read_field.ensures.exact

pub loop-rest-preserved : goal.loop-rest-preserved
loop-rest-preserved c =
    let passed = c.loop-rest.invariant in
    (passed.0 ++ c.in_ok-read_field.field-0 ∷ [], goes_on read_entry passed.0 _ _ _ _ c.in_ok-read_field.ensures.exact passed.1)

pub returns-in_err-read_field : goal.returns-in_err-read_field
returns-in_err-read_field c =
    let p = err_from_is_err_and c.from_residual.result c.from_residual.ensures.1 in
    let more : 0 < length c.loop-rest.rest.now = grind (arith, nat_tests) in
    rw (p.1, p.2) (ends_refused _ read_entry c.loop-rest.invariant.0 _ _ c.in_err-read_field.ensures.exact more c.loop-rest.invariant.1)

pub returns : goal.returns
returns c =
    let none : length c.loop-rest.rest.now ≡ 0 = grind (arith, nat_tests) in
    (c.loop-rest.invariant.0, all_read read_entry c.loop-rest.invariant.0 _ _ none c.loop-rest.invariant.1, tt)
