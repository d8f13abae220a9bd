use Rattle.std.proofs.Common.{◌≡◌, ℕ, Bool, List, Bor, Ok, refl}
use Rattle.x509_cert.specs.declared.crl.revoked_cert.RevokedCert.{RevokedCert}
use Rattle.x509_check.specs.CrlRefs.{is_marked}
use Rattle.x509_check.specs.contracts.lent.entry.pass_entry.{P-type}
use Rattle.x509_check.proofs.LentEntries.{so_field}
use Rattle.x509_check.proofs.lent.entry.pass_entry.Goals as goal

pub returns-in-Ok : goal.returns-in-Ok
returns-in-Ok g c =
    let so = λ (entry : RevokedCert (P-type g.row.P)) (found : Bor (List ℕ) × Bool). (found.0.now ≡ entry.serial_number) × (found.1 ≡ is_marked entry) in
    let s = so_field so (Ok (c.in-Ok.serial_number, c.in-Ok.is_marked)) _ _ _ _ c.in_ok-piece.ensures.exact (rw c.octet.ensures.octet at c.if-piece-octet.false) c.in-Ok.ensures in
    ((s.0, c.in_ok-piece.piece.rest.now), s.1, (s.2.0, refl, s.2.1))
