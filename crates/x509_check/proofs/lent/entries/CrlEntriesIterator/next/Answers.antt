use Rattle.std.proofs.Common.{◌≡◌, ◌<◌, ◌≤◌, length, Ok, refl, ap, ◌∙◌, rules, arith}
use Rattle.std.proofs.lemmas.Bool.Decides.{nat_tests}
use Rattle.x509_check.proofs.LentCertificates.{is_read}
use Rattle.x509_check.proofs.LentLists.{first_left, first_of, is_list}
use Rattle.x509_check.specs.CrlRefs.{lent_entry}
use Rattle.x509_check.specs.Lending.{listed}
use Rattle.x509_der.specs.Frames.{field_at}
use Rattle.x509_der.specs.List.{list_reading}
use Rattle.x509_der.specs.ListLaws.{field_shorter, none_read}
use Rattle.x509_cert.specs.RevokedCert.{revoked_cert}
use Rattle.x509_check.proofs.lent.entries.CrlEntriesIterator.next.Goals as goal

pub returns-then-is_empty-clause-steps : goal.returns-then-is_empty-clause-steps
returns-then-is_empty-clause-steps g c =
    let none : length c.args.self.now.rest.now ≡ 0 = grind (arith, nat_tests) in
    let left = (is_list _ _ (none_read (revoked_cert {P = g.row.P.Denot} g.P.Profile.serial_check).reading c.args.self.now.rest.now none)).1 in
    (left, left)

pub known_entry-entry-requires-clause-known : goal.known_entry-entry-requires-clause-known
known_entry-entry-requires-clause-known g c κs within =
    let read = (revoked_cert {P = g.row.P.Denot} g.P.Profile.serial_check).reading in
    let some : 1 ≤ length c.args.self.now.rest.now = grind (arith, nat_tests) in
    let first = first_of read c.args.self.now.rest.now some c.args.self.now.are_entries in
    is_read _ _ first.2

pub invariant_of-self : goal.invariant_of-self
invariant_of-self g c =
    let read = (revoked_cert {P = g.row.P.Denot} g.P.Profile.serial_check).reading in
    let some : 1 ≤ length c.args.self.now.rest.now = grind (arith, nat_tests) in
    let first = first_of read c.args.self.now.rest.now some c.args.self.now.are_entries in
    let known = c.known_entry-entry.ensures first.0 first.1 first.2 in
    let is : field_at read c.args.self.now.rest.now ≡ Ok (lent_entry c.known_entry-entry.result.0, c.known_entry-entry.result.1.now) = first.2 ∙ rw (known.0, known.1) refl in
    let shorter : length c.known_entry-entry.result.1.now < length c.args.self.now.rest.now = field_shorter read _ _ _ is in record {
      within = omega arith;
      are_entries = (first_left read _ _ _ is c.args.self.now.are_entries).1;
    }

pub returns-clause-steps : goal.returns-clause-steps
returns-clause-steps g c =
    let read = (revoked_cert {P = g.row.P.Denot} g.P.Profile.serial_check).reading in
    let some : 1 ≤ length c.args.self.now.rest.now = grind (arith, nat_tests) in
    let first = first_of read c.args.self.now.rest.now some c.args.self.now.are_entries in
    let known = c.known_entry-entry.ensures first.0 first.1 first.2 in
    let is : field_at read c.args.self.now.rest.now ≡ Ok (lent_entry c.known_entry-entry.result.0, c.known_entry-entry.result.1.now) = first.2 ∙ rw (known.0, known.1) refl in
    (first_left read _ _ _ is c.args.self.now.are_entries).0

pub returns-clause-goes : goal.returns-clause-goes
returns-clause-goes g c =
    let read = (revoked_cert {P = g.row.P.Denot} g.P.Profile.serial_check).reading in
    let some : 1 ≤ length c.args.self.now.rest.now = grind (arith, nat_tests) in
    let first = first_of read c.args.self.now.rest.now some c.args.self.now.are_entries in
    let known = c.known_entry-entry.ensures first.0 first.1 first.2 in
    let is : field_at read c.args.self.now.rest.now ≡ Ok (lent_entry c.known_entry-entry.result.0, c.known_entry-entry.result.1.now) = first.2 ∙ rw (known.0, known.1) refl in
    let left = (first_left read _ _ _ is c.args.self.now.are_entries).0 in
    let shorter : length (listed (list_reading read c.known_entry-entry.result.1.now)) < length (listed (list_reading read c.args.self.now.rest.now)) = omega (arith, ap length left) in
    search rules
