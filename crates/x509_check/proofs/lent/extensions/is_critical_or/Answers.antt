use Rattle.std.proofs.Common.{◌≡◌, bytes_eq, false, true, sym, ap, ◌∙◌, arith}
use Rattle.std.proofs.lemmas.Bool.Decides.{nat_tests}
use Rattle.x509_check.proofs.KnownEntries.{not_refused}
use Rattle.x509_check.proofs.KnownExtensions.{is_critical, is_not_critical, oid_stands}
use Rattle.x509_der.specs.ElementReading.{Piece}
use Rattle.x509_der.specs.OutcomeLaws.{ok_is}
use Rattle.x509_check.proofs.lent.extensions.is_critical_or.Goals as goal

pub returns-then-matches : goal.returns-then-matches
returns-then-matches c = λ e read.
    let stands = ok_is _ _ (sym c.in-Ok.ensures.exact ∙ oid_stands c.args.octets.now e read) in
    let critical : e.critical ≡ true = is_critical e.critical e.extn_value c.in-Ok.piece.rest.now (ap (λ (q : Piece). q.rest) stands) (grind (arith, nat_tests)) in
    rw critical c.if-matches.true

pub returns-else-matches : goal.returns-else-matches
returns-else-matches c = λ e read.
    let stands = ok_is _ _ (sym c.in-Ok.ensures.exact ∙ oid_stands c.args.octets.now e read) in
    let other : e.critical ≡ false = is_not_critical e.critical e.extn_value c.in-Ok.piece.rest.now (ap (λ (q : Piece). q.rest) stands) (λ some one. grind (arith, nat_tests)) in
    rw other (c.eq.ensures ∙ ap (λ (q : Piece). bytes_eq q.content c.args.oid.now) stands)

pub returns-in-Err : goal.returns-in-Err
returns-in-Err c = λ e read. absurd (not_refused c.args.octets.now _ _ (oid_stands c.args.octets.now e read) c.in-Err.ensures.exact c.in-Err.ensures.err)
