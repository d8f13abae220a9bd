use Rattle.std.proofs.Common.{bytes_eq, sym, ap, ◌∙◌}
use Rattle.x509_check.proofs.KnownEntries.{not_refused}
use Rattle.x509_check.proofs.KnownExtensions.{oid_stands}
use Rattle.x509_der.specs.ElementReading.{Piece}
use Rattle.x509_der.specs.OutcomeLaws.{ok_is}
use Rattle.x509_check.proofs.lent.extension.has_oid.Goals as goal

pub returns-in-Ok : goal.returns-in-Ok
returns-in-Ok c = λ e read.
    let stands = ok_is _ _ (sym c.in-Ok.ensures.exact ∙ oid_stands c.args.octets.now e read) in
    c.is_same.ensures ∙ ap (λ (q : Piece). bytes_eq q.content c.args.oid.now) stands

pub returns-in-Err : goal.returns-in-Err
returns-in-Err c = λ e read. absurd (not_refused c.args.octets.now _ _ (oid_stands c.args.octets.now e read) c.in-Err.ensures.exact c.in-Err.ensures.err)
