use Rattle.std.proofs.lemmas.Result.{err_from_is_err_and}
use Rattle.std.proofs.Common.{◌∙◌}
use Rattle.x509_check.proofs.Checks.{own_tag_passes, other_tag_refused, piece_refused}
use Rattle.x509_der.specs.Frames.{implicit_tag}
use Rattle.x509_der.specs.Form.{one_tag}
use Rattle.x509_check.proofs.field.check_implicit.Goals as goal

pub returns-in_err-piece-clause-exact : goal.returns-in_err-piece-clause-exact
returns-in_err-piece-clause-exact g c =
    let p = err_from_is_err_and c.from_residual.result c.from_residual.ensures.1 in
    rw (p.1, p.2) (piece_refused _ _ c.in_err-piece.field-0.0.kind c.in_err-piece.ensures.exact c.in_err-piece.ensures.err)

pub returns-then-piece-implicit_octet-clause-exact : goal.returns-then-piece-implicit_octet-clause-exact
returns-then-piece-implicit_octet-clause-exact g c = rw c.into.ensures (other_tag_refused _ _ _ _ c.in_ok-piece.ensures.exact (rw c.implicit_octet.ensures at c.if-piece-implicit_octet.true))

pub returns-clause-exact : goal.returns-clause-exact
returns-clause-exact g c =
    let f = g.T.Grammar.form in
    own_tag_passes (implicit_tag c.args.n (one_tag f)) (f.reading (one_tag f)) _ _ c.check_element.result c.in_ok-piece.ensures.exact (c.if-piece-implicit_octet.false ∙ c.implicit_octet.ensures) (rw c.own_octet.ensures at c.check_element.ensures)
