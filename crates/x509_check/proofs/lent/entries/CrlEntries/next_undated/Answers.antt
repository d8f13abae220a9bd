use Rattle.std.proofs.Common.{◌≡◌, ◌<◌, ◌≤◌, ◌∷◌, length, sym, ap, ◌∙◌, arith}
use Rattle.std.proofs.lemmas.Bool.Decides.{nat_tests}
use Rattle.x509_check.proofs.LentCertificates.{is_read}
use Rattle.x509_check.proofs.LentLists.{first_left, first_of, is_list}
use Rattle.x509_check.specs.Lending.{listed}
use Rattle.x509_der.specs.List.{list_reading}
use Rattle.x509_der.specs.ListLaws.{field_shorter, none_read}
use Rattle.x509_cert.specs.RevokedCert.{revoked_cert}
use Rattle.x509_check.proofs.lent.entries.CrlEntries.next_undated.Goals as goal

pub returns-then-is_empty : goal.returns-then-is_empty
returns-then-is_empty g c =
    let none : length c.args.self.now.rest.now ≡ 0 = grind (arith, nat_tests) in
    (is_list _ _ (none_read (revoked_cert {P = g.row.P.Denot} g.P.Profile.serial_check).reading c.args.self.now.rest.now none)).1

pub known_undated-requires-clause-known : goal.known_undated-requires-clause-known
known_undated-requires-clause-known g c κs within =
    let read = (revoked_cert {P = g.row.P.Denot} g.P.Profile.serial_check).reading in
    let some : 1 ≤ length c.args.self.now.rest.now = grind (arith, nat_tests) in
    let first = first_of read c.args.self.now.rest.now some c.args.self.now.are_entries in
    is_read _ _ first.2

pub invariant_of-self : goal.invariant_of-self
invariant_of-self g c =
    let read = (revoked_cert {P = g.row.P.Denot} g.P.Profile.serial_check).reading in
    let some : 1 ≤ length c.args.self.now.rest.now = grind (arith, nat_tests) in
    let first = first_of read c.args.self.now.rest.now some c.args.self.now.are_entries in
    let behind = (c.known_undated.ensures first.0 first.1 first.2).1 in
    let shorter : length c.known_undated.result.1.now < length c.args.self.now.rest.now = rw behind (field_shorter read _ _ _ first.2) in record {
      within = omega arith;
      are_entries = rw behind (first_left read _ _ _ first.2 c.args.self.now.are_entries).1;
    }

pub returns : goal.returns
returns g c =
    let read = (revoked_cert {P = g.row.P.Denot} g.P.Profile.serial_check).reading in
    let some : 1 ≤ length c.args.self.now.rest.now = grind (arith, nat_tests) in
    let first = first_of read c.args.self.now.rest.now some c.args.self.now.are_entries in
    let known = c.known_undated.ensures first.0 first.1 first.2 in
    let left = (first_left read _ _ _ first.2 c.args.self.now.are_entries).0 in
    (first.0, left ∙ ap (λ r. first.0 ∷ listed (list_reading read r)) (sym known.1), known.0)
