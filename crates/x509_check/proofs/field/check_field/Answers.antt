use Rattle.std.proofs.lemmas.Result.{err_from_is_err_and}
use Rattle.x509_check.proofs.Checks.{field_passes, piece_refused}
use Rattle.x509_check.proofs.field.check_field.Goals as goal

pub returns-in_err-piece-clause-exact : goal.returns-in_err-piece-clause-exact
returns-in_err-piece-clause-exact g c =
    let p = err_from_is_err_and c.from_residual.result c.from_residual.ensures.1 in
    rw (p.1, p.2) (piece_refused _ _ c.in_err-piece.field-0.0.kind c.in_err-piece.ensures.exact c.in_err-piece.ensures.err)

pub returns-clause-exact : goal.returns-clause-exact
returns-clause-exact g c = field_passes c.check_element.result g.T.Grammar.form.reading _ _ c.in_ok-piece.ensures.exact c.check_element.ensures
