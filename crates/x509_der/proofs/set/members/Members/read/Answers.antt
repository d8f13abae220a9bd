use Rattle.std.proofs.Common.{◌≡◌, ◌<◌, length, arith}
use Rattle.std.proofs.lemmas.Bool.Decides.{nat_tests}
use Rattle.std.proofs.lemmas.Result.{err_from_is_err_and}
use Rattle.x509_der.specs.ListLaws.{none_read, first_read, one_read, first_refused}
use Rattle.x509_der.proofs.set.members.Members.read.Goals as goal

pub returns-then-is_empty : goal.returns-then-is_empty
returns-then-is_empty g c =
    let none : length c.args.bytes.now ≡ 0 = grind (arith, nat_tests) in
    record { exact = rw c.new.ensures (none_read g.T.Grammar.form.reading c.args.bytes.now none) }

pub returns-in_err-first : goal.returns-in_err-first
returns-in_err-first g c =
    let p = err_from_is_err_and c.from_residual.result c.from_residual.ensures.1 in
    let some : 0 < length c.args.bytes.now = grind (arith, nat_tests) in
    record { exact = rw (p.1, p.2) (first_refused g.T.Grammar.form.reading c.args.bytes.now c.in_err-first.field-0.0.kind c.in_err-first.ensures.exact some) }

pub returns-then-is_empty-2 : goal.returns-then-is_empty-2
returns-then-is_empty-2 g c =
    let none : length c.read_field.new.rest.now ≡ 0 = grind (arith, nat_tests) in
    record { exact = one_read g.T.Grammar.form.reading c.args.bytes.now c.read_field.new.rest.now c.in_ok-first.first c.in_ok-first.ensures.exact none }

pub returns-in_err-read_further : goal.returns-in_err-read_further
returns-in_err-read_further g c =
    let p = err_from_is_err_and c.from_residual-in_err-read_further.result c.from_residual-in_err-read_further.ensures.1 in
    let read = first_read g.T.Grammar.form.reading c.args.bytes.now c.read_field.new.rest.now c.in_ok-first.first c.in_ok-first.ensures.exact in
    record { exact = rw (p.1, p.2) (rw read at c.in_err-read_further.ensures.exact) }

pub returns : goal.returns
returns g c =
    let read = first_read g.T.Grammar.form.reading c.args.bytes.now c.read_field.new.rest.now c.in_ok-first.first c.in_ok-first.ensures.exact in
    record { exact = rw c.from_vec.ensures (rw read at c.in_ok-read_further.ensures.exact) }
