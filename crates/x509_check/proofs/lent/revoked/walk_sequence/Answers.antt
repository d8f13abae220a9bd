use Rattle.std.proofs.Common.{Err, refl}
use Rattle.std.proofs.lemmas.Result.{err_from_is_err_and}
use Rattle.x509_check.proofs.Checks.{other_tag_refused, piece_refused}
use Rattle.x509_check.proofs.LentCrls.{entry_list_lawful}
use Rattle.x509_check.proofs.LentEntries.{so_field}
use Rattle.x509_check.proofs.LentFields.{front_is, own_field}
use Rattle.x509_check.specs.CrlRefs.{entry_list}
use Rattle.x509_check.specs.CrlWalk.{WalksEntries}
use Rattle.x509_check.proofs.lent.revoked.walk_sequence.Goals as goal

pub returns-in_err-piece-clause-exact : goal.returns-in_err-piece-clause-exact
returns-in_err-piece-clause-exact g c =
    let p = err_from_is_err_and c.from_residual.result c.from_residual.ensures.1 in
    rw (p.1, p.2) (piece_refused _ _ c.in_err-piece.field-0.0.kind c.in_err-piece.ensures.exact c.in_err-piece.ensures.err)

pub returns-then-piece-octet-clause-exact : goal.returns-then-piece-octet-clause-exact
returns-then-piece-octet-clause-exact g c = rw c.into.ensures (other_tag_refused _ _ _ _ c.in_ok-piece.ensures.exact (rw c.octet.ensures.octet at c.if-piece-octet.true))

pub returns-in-Ok-clause-exact : goal.returns-in-Ok-clause-exact
returns-in-Ok-clause-exact g c =
    let h = c.in-Ok.ensures in
    let form = entry_list {P = g.row.P.Denot} g.P.Profile.serial_check in
    let read = own_field _ _ _ _ h.0 c.in_ok-piece.ensures.exact (rw c.octet.ensures.octet at c.if-piece-octet.false) h.1 in
    let front = front_is form (entry_list_lawful g.P.Profile.serial_check) _ _ h.0 read in
    (h.0, read, (h.2.0, rw front refl, h.2.1, h.2.2))

pub returns-in-Err-clause-exact : goal.returns-in-Err-clause-exact
returns-in-Err-clause-exact g c =
    so_field (WalksEntries {P = g.row.P.Denot} g.P.Profile.serial_check c.args.serial_number.now) (Err c.in-Err.e) _ _ _ _ c.in_ok-piece.ensures.exact (rw c.octet.ensures.octet at c.if-piece-octet.false) c.in-Err.ensures
