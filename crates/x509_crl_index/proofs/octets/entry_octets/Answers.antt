use Rattle.std.proofs.Common.{◌∙◌, [], ap, refl, sym}
use Rattle.std.specs.Prelude.{None}
use Rattle.x509_cert.specs.Revoked.{entries}
use Rattle.x509_cert.specs.RevokedCert.{revoked_cert}
use Rattle.x509_check.proofs.LentCrls.{absent, lent_entries, some_crl}
use Rattle.x509_check.proofs.LentLists.{is_list}
use Rattle.x509_check.specs.CrlRefs.{entry_list}
use Rattle.x509_check.specs.Lending.{listed}
use Rattle.x509_crl_index.proofs.Elements.{element_content}
use Rattle.x509_der.specs.List.{list_reading}
use Rattle.x509_der.specs.ListLaws.{none_read}
use Rattle.x509_crl_index.proofs.octets.entry_octets.Goals as goal

pub returns-in-Some-clause-within : goal.returns-in-Some-clause-within
returns-in-Some-clause-within g c =
    let crl = c.args.crl.now in
    let v = some_crl g.P.Profile.serial_check crl.bytes.now crl.parts crl.lent crl.within in
    let l = lent_entries g.P.Profile.serial_check crl.bytes.now v.0 v.1 c.in-Some.list.now (c.in-Some.ensures v.0 v.1) in
    rw (c.front_content.ensures ∙ element_content _ _ l.2.0) l.2.1.1

pub returns-in-Some-clause-are_entries : goal.returns-in-Some-clause-are_entries
returns-in-Some-clause-are_entries g c =
    let crl = c.args.crl.now in
    let v = some_crl g.P.Profile.serial_check crl.bytes.now crl.parts crl.lent crl.within in
    let l = lent_entries g.P.Profile.serial_check crl.bytes.now v.0 v.1 c.in-Some.list.now (c.in-Some.ensures v.0 v.1) in
    rw (c.front_content.ensures ∙ element_content _ _ l.2.0) (is_list _ l.0 l.2.1.0).0

pub returns-in-Some-clause-same : goal.returns-in-Some-clause-same
returns-in-Some-clause-same g c = λ list spells.
    let read = (revoked_cert {P = g.row.P.Denot} g.P.Profile.serial_check).reading in
    let l = lent_entries g.P.Profile.serial_check c.args.crl.now.bytes.now list spells c.in-Some.list.now (c.in-Some.ensures list spells) in
    ap (λ octets. listed (list_reading read octets)) (c.front_content.ensures ∙ element_content _ _ l.2.0) ∙ (is_list _ l.0 l.2.1.0).1 ∙ ap entries (sym l.1)

pub returns-in-None-clause-are_entries : goal.returns-in-None-clause-are_entries
returns-in-None-clause-are_entries g c = (is_list _ [] (none_read (revoked_cert {P = g.row.P.Denot} g.P.Profile.serial_check).reading [] refl)).0

pub returns-in-None-clause-same : goal.returns-in-None-clause-same
returns-in-None-clause-same g c = λ list spells.
    let read = (revoked_cert {P = g.row.P.Denot} g.P.Profile.serial_check).reading in
    let none = absent (entry_list {P = g.row.P.Denot} g.P.Profile.serial_check) None list.tbs_cert_list.revoked_certificates refl (c.in-None.ensures list spells) in
    (is_list _ [] (none_read read [] refl)).1 ∙ rw none refl
