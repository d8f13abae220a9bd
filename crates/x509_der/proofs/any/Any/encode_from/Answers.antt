use Rattle.std.proofs.lemmas.Result.{err_from_is_err_and}
use Rattle.x509_der.proofs.Contents.{content_refused}
use Rattle.x509_der.proofs.any.Any.encode_from.Goals as goal

pub returns-in_err-put_content-clause-err : goal.returns-in_err-put_content-clause-err
returns-in_err-put_content-clause-err g c =
    let p = err_from_is_err_and c.from_residual.result c.from_residual.ensures.1 in
    rw (p.1, p.2) (content_refused _ _ _ c.in_err-put_content.field-0.0 c.put_content.new.room (rw c.new-room.ensures at c.in_err-put_content.ensures))
