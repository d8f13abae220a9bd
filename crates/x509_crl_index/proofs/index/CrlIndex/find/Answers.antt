use Rattle.std.proofs.Common.{◌∙◌, ◌∷◌, ap, arith, length, length-drop, sym}
use Rattle.x509_check.proofs.LentCertificates.{is_read}
use Rattle.x509_cert.specs.RevokedCert.{revoked_cert}
use Rattle.x509_crl_index.proofs.Entries.{first_with, none_with}
use Rattle.x509_der.specs.Frames.{field_at}
use Rattle.x509_crl_index.proofs.index.CrlIndex.find.Goals as goal

pub known_entry-requires-clause-within : goal.known_entry-requires-clause-within
known_entry-requires-clause-within g c = λ lifetimes outlived.
    omega (arith, ap length c.octets_at.ensures, length-drop c.in-Some.place c.args.self.now.octets.now, c.args.self.now.within)

pub known_entry-requires-clause-known : goal.known_entry-requires-clause-known
known_entry-requires-clause-known g c = λ lifetimes outlived.
    let index = c.args.self.now in
    let read = field_at (revoked_cert {P = g.row.P.Denot} g.P.Profile.serial_check).reading in
    let found = first_with g.row.P.Denot g.P.Profile.serial_check index.octets.now index.are_entries c.args.serial_number.now c.in-Some.place (c.in-Some.ensures.first index.indexed) in
    is_read _ _ (ap read c.octets_at.ensures ∙ found.read)

pub returns-in-Some : goal.returns-in-Some
returns-in-Some g c =
    let index = c.args.self.now in
    let read = field_at (revoked_cert {P = g.row.P.Denot} g.P.Profile.serial_check).reading in
    let found = first_with g.row.P.Denot g.P.Profile.serial_check index.octets.now index.are_entries c.args.serial_number.now c.in-Some.place (c.in-Some.ensures.first index.indexed) in
    let same = c.known_entry.ensures found.value found.rest (ap read c.octets_at.ensures ∙ found.read) in
    (found.others, found.first ∙ ap (λ entry. entry ∷ found.others) (sym same))

pub returns-in-None : goal.returns-in-None
returns-in-None g c =
    let index = c.args.self.now in
    none_with g.row.P.Denot g.P.Profile.serial_check index.octets.now index.are_entries c.args.serial_number.now (c.in-None.ensures.first index.indexed)
