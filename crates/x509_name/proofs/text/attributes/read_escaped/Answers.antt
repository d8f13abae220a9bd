use Rattle.std.proofs.Common.{◌<◌, length, inr, subst}
use Rattle.std.proofs.lemmas.Result.{err_from_is_err_and}
use Rattle.x509_der.specs.Element.{element, limit}
use Rattle.x509_der.specs.Tag.{octet_of}
use Rattle.x509_der.specs.declared.tag.Tag.{Tag}
use Rattle.x509_name.proofs.AttributeReading.{content_refused, too_long, weaker_err}
use Rattle.x509_name.proofs.text.attributes.read_escaped.Goals as goal

pub returns-in_err-content-clause-err : goal.returns-in_err-content-clause-err
returns-in_err-content-clause-err c =
    let exit = err_from_is_err_and c.from_residual.result c.from_residual.ensures.1 in
    rw (exit.1, exit.2) (content_refused c.args.oid.now c.args.text.now _ c.requires c.in_err-content.ensures.err)

pub returns-clause-err : goal.returns-clause-err
returns-clause-err c =
    weaker_err _ _ c.from_vec.result (λ e long.
    inr (too_long c.args.oid.now c.args.text.now c.in_ok-content.content.items e.kind c.requires c.in_ok-content.ensures.ok long.0
    (subst (λ (t : Tag). limit < length (element (octet_of t) c.in_ok-content.content.items)) c.tag_for.ensures long.1)))
    c.from_vec.ensures.err
