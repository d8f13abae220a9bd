use Rattle.std.proofs.Common.{rules, refl, sym, ap, ◌∙◌, subst}
use Rattle.std.specs.Option.{option_copied}
use Rattle.x509_cert.specs.Revoked.{entries}
use Rattle.x509_cert.specs.RevokedCert.{revoked_cert}
use Rattle.x509_check.proofs.LentCrls.{absent, lent_entries, parts_are, some_crl}
use Rattle.x509_check.proofs.LentLists.{is_list}
use Rattle.x509_check.specs.CrlRefs.{FindsEntry, entry_list}
use Rattle.x509_check.specs.Lending.{listed}
use Rattle.x509_der.specs.List.{list_reading}
use Rattle.x509_der.specs.TagLaws.{tag_is_identifier}
use Rattle.x509_der.specs.declared.tag.Tag.TheVariants.{Sequence}
use Rattle.x509_check.proofs.lent.crl.CrlRef.find.Goals as goal

pub returns-in_default : goal.returns-in_default
returns-in_default g c = λ list spells.
    let none = absent (entry_list {P = g.row.P.Denot} g.P.Profile.serial_check) c.args.self.now.parts.fields.revoked_certificates list.tbs_cert_list.revoked_certificates (search rules) (ap (λ e. e.fields.revoked_certificates) (parts_are g.P.Profile.serial_check c.args.self.now.bytes.now c.args.self.now.parts c.args.self.now.lent list spells)) in
    rw none refl

pub find_in_checked-requires-clause-within : goal.find_in_checked-requires-clause-within
find_in_checked-requires-clause-within g c = λ lifetimes outlived.
    let v = some_crl g.P.Profile.serial_check c.args.self.now.bytes.now c.args.self.now.parts c.args.self.now.lent c.args.self.now.within in
    let l = lent_entries g.P.Profile.serial_check c.args.self.now.bytes.now v.0 v.1 c.in-Some.list.now (sym (ap option_copied c.in-Some.is) ∙ ap (λ e. e.fields.revoked_certificates) (parts_are g.P.Profile.serial_check c.args.self.now.bytes.now c.args.self.now.parts c.args.self.now.lent v.0 v.1)) in
    rw (c.content_of.ensures 48 _ (tag_is_identifier Sequence) l.2.0) l.2.1.1

pub find_in_checked-requires-clause-are_entries : goal.find_in_checked-requires-clause-are_entries
find_in_checked-requires-clause-are_entries g c = λ lifetimes outlived.
    let v = some_crl g.P.Profile.serial_check c.args.self.now.bytes.now c.args.self.now.parts c.args.self.now.lent c.args.self.now.within in
    let l = lent_entries g.P.Profile.serial_check c.args.self.now.bytes.now v.0 v.1 c.in-Some.list.now (sym (ap option_copied c.in-Some.is) ∙ ap (λ e. e.fields.revoked_certificates) (parts_are g.P.Profile.serial_check c.args.self.now.bytes.now c.args.self.now.parts c.args.self.now.lent v.0 v.1)) in
    rw (c.content_of.ensures 48 _ (tag_is_identifier Sequence) l.2.0) (is_list _ l.0 l.2.1.0).0

pub returns : goal.returns
returns g c = λ list spells.
    let read = (revoked_cert {P = g.row.P.Denot} g.P.Profile.serial_check).reading in
    let l = lent_entries g.P.Profile.serial_check c.args.self.now.bytes.now list spells c.in-Some.list.now (sym (ap option_copied c.in-Some.is) ∙ ap (λ e. e.fields.revoked_certificates) (parts_are g.P.Profile.serial_check c.args.self.now.bytes.now c.args.self.now.parts c.args.self.now.lent list spells)) in
    let are = ap (λ octets. listed (list_reading read octets)) (c.content_of.ensures 48 _ (tag_is_identifier Sequence) l.2.0) ∙ (is_list _ l.0 l.2.1.0).1 ∙ ap entries (sym l.1) in
    subst (λ revoked. FindsEntry c.args.serial_number.now revoked c.find_in_checked.result) are c.find_in_checked.ensures
