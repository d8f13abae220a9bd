use Rattle.std.proofs.Common.{ap}
use Rattle.std.proofs.lemmas.Result.{err_from_is_err_and}
use Rattle.x509_der.specs.ContentLaws.{content_fits}
use Rattle.x509_der.specs.ElementLaws.{piece_at-sound}
use Rattle.x509_der.specs.declared.error.Error.{Error}
use Rattle.x509_der.proofs.Elements.{no_element, long_element, foreign_element}
use Rattle.x509_der.proofs.element.take_element.Goals as goal

pub returns-in_err-piece-clause-err : goal.returns-in_err-piece-clause-err
returns-in_err-piece-clause-err c =
    let p = err_from_is_err_and c.from_residual.result c.from_residual.ensures.1 in
    rw (p.1, p.2) (c.in_err-piece.ensures.err, no_element c.args.bytes.now (rw c.in_err-piece.ensures.err at c.in_err-piece.ensures.exact))

pub returns-then-piece-gt-LONGEST_CONTENT-clause-err :
    goal.returns-then-piece-gt-LONGEST_CONTENT-clause-err
returns-then-piece-gt-LONGEST_CONTENT-clause-err c = (ap (λ (e : Error). e.kind) c.into.ensures, long_element c.args.bytes.now _ c.in_ok-piece.ensures.exact c.if-piece-gt-LONGEST_CONTENT.true)

pub returns-in_err-tag-clause-err : goal.returns-in_err-tag-clause-err
returns-in_err-tag-clause-err c =
    let p = err_from_is_err_and c.from_residual-in_err-tag.result c.from_residual-in_err-tag.ensures.1 in
    rw (p.1, p.2) (c.in_err-tag.ensures.err.0, foreign_element c.args.bytes.now _ c.in_ok-piece.ensures.exact c.in_err-tag.ensures.err.1)

pub returns-clause-ok : goal.returns-clause-ok
returns-clause-ok c = rw c.in_ok-tag.ensures.ok (piece_at-sound c.args.bytes.now _ c.in_ok-piece.ensures.exact).0

pub returns-clause-within : goal.returns-clause-within
returns-clause-within c = content_fits c.in_ok-piece.piece.content.now c.if-piece-gt-LONGEST_CONTENT.false _
