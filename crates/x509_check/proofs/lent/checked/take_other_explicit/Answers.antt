use Rattle.std.proofs.lemmas.Result.{err_from_is_err_and}
use Rattle.x509_check.proofs.Checks.{other_refused, other_tag_refused, piece_refused}
use Rattle.x509_check.proofs.LentFields.{other_inside, other_inside_refused}
use Rattle.x509_der.specs.Form.{universal}
use Rattle.x509_der.specs.FormLaws.{universal_lawful}
use Rattle.x509_check.proofs.lent.checked.take_other_explicit.Goals as goal

pub returns-in_err-piece-clause-exact : goal.returns-in_err-piece-clause-exact
returns-in_err-piece-clause-exact g c =
    let p = err_from_is_err_and c.from_residual.result c.from_residual.ensures.1 in
    rw (p.1, p.2) (other_refused g.T.DefaultValue.default _ _ (piece_refused _ _ c.in_err-piece.field-0.0.kind c.in_err-piece.ensures.exact c.in_err-piece.ensures.err))

pub returns-then-piece-n-clause-exact : goal.returns-then-piece-n-clause-exact
returns-then-piece-n-clause-exact g c = rw c.into.ensures (other_refused g.T.DefaultValue.default _ _ (other_tag_refused _ _ _ _ c.in_ok-piece.ensures.exact c.if-piece-n.true))

pub returns-in_err-check_other-clause-exact : goal.returns-in_err-check_other-clause-exact
returns-in_err-check_other-clause-exact g c =
    let p = err_from_is_err_and c.from_residual-in_err-check_other.result c.from_residual-in_err-check_other.ensures.1 in
    rw (p.1, p.2) (other_inside_refused g.T.DefaultValue.default _ _ _ _ _ c.in_ok-piece.ensures.exact c.if-piece-n.false (c.in_err-check_other.ensures _ c.plain_whole.ensures))

pub returns-clause-exact : goal.returns-clause-exact
returns-clause-exact g c = other_inside g.T.DefaultValue.default (universal g.T.Content.IDENTIFIER g.T.Content.contents) (universal_lawful g.T.Content.IDENTIFIER g.T.Content.contents g.met.T.Content.contents_lawful) _ _ _ c.in_ok-piece.ensures.exact c.if-piece-n.false (c.in_ok-check_other.ensures _ c.plain_whole.ensures)
