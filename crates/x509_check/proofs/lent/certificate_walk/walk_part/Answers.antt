use Rattle.std.proofs.lemmas.Result.{err_from_is_err_and}
use Rattle.x509_check.proofs.Checks.{other_tag_refused, piece_refused}
use Rattle.x509_check.proofs.LentEntries.{so_field}
use Rattle.x509_check.proofs.lent.certificate_walk.walk_part.Goals as goal

pub returns-in_err-piece-clause-exact : goal.returns-in_err-piece-clause-exact
returns-in_err-piece-clause-exact g c =
    let p = err_from_is_err_and c.from_residual.result c.from_residual.ensures.1 in
    rw (p.1, p.2) (piece_refused _ _ c.in_err-piece.field-0.0.kind c.in_err-piece.ensures.exact c.in_err-piece.ensures.err)

pub returns-then-piece-octet-clause-exact : goal.returns-then-piece-octet-clause-exact
returns-then-piece-octet-clause-exact g c = rw c.into.ensures (other_tag_refused _ _ _ _ c.in_ok-piece.ensures.exact (rw c.octet.ensures.octet at c.if-piece-octet.true))

pub returns-clause-exact : goal.returns-clause-exact
returns-clause-exact g c = so_field _ c.walk_fields.result _ _ _ _ c.in_ok-piece.ensures.exact (rw c.octet.ensures.octet at c.if-piece-octet.false) c.walk_fields.ensures
