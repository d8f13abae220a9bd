use Rattle.std.proofs.Common.{◌+◌, ◌∙◌}
use Rattle.std.proofs.lemmas.Result.{err_from_is_err_and}
use Rattle.x509_check.proofs.Checks.{field_refused_in, other_tag_refused, piece_refused, under_its_own}
use Rattle.x509_check.proofs.LentFields.{inside}
use Rattle.x509_der.specs.Form.{whole_reading}
use Rattle.x509_check.proofs.lent.checked.take_explicit.Goals as goal

pub returns-in_err-piece-clause-exact : goal.returns-in_err-piece-clause-exact
returns-in_err-piece-clause-exact g c =
    let p = err_from_is_err_and c.from_residual.result c.from_residual.ensures.1 in
    rw (p.1, p.2) (piece_refused _ _ c.in_err-piece.field-0.0.kind c.in_err-piece.ensures.exact c.in_err-piece.ensures.err)

pub returns-then-piece-n-clause-exact : goal.returns-then-piece-n-clause-exact
returns-then-piece-n-clause-exact g c = rw c.into.ensures (other_tag_refused _ _ _ _ c.in_ok-piece.ensures.exact c.if-piece-n.true)

pub returns-in_err-pass_whole-clause-exact : goal.returns-in_err-pass_whole-clause-exact
returns-in_err-pass_whole-clause-exact g c =
    let p = err_from_is_err_and c.from_residual-in_err-pass_whole.result c.from_residual-in_err-pass_whole.ensures.1 in
    rw (p.1, p.2) (field_refused_in _ _ _ _ c.in_ok-piece.ensures.exact (under_its_own (160 + c.args.n) _ (whole_reading g.T.Grammar.form.reading) _ c.if-piece-n.false ∙ c.in_err-pass_whole.ensures))

pub returns-clause-exact : goal.returns-clause-exact
returns-clause-exact g c =
    let read = c.in_ok-pass_whole.ensures in
    let k = inside g.T.Grammar.form g.met.T.Grammar.lawful _ _ _ read.0 c.in_ok-piece.ensures.exact c.if-piece-n.false read.1 in
    (read.0, k.0, k.1)
