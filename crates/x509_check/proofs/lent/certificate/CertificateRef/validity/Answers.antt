use Rattle.std.proofs.Common.{sym, ap, ◌∙◌}
use Rattle.x509_base.specs.Validity.{validity, validity_contents}
use Rattle.x509_check.proofs.LentCertificates.{elements_are, some_certificate, validity_read}
use Rattle.x509_der.specs.OutcomeLaws.{ok_is}
use Rattle.x509_der.specs.TagLaws.{tag_is_identifier}
use Rattle.x509_der.specs.declared.tag.Tag.TheVariants.{Sequence}
use Rattle.x509_check.proofs.lent.certificate.CertificateRef.validity.Goals as goal

pub unreachable-requires : goal.unreachable-requires
unreachable-requires g c =
    let v = some_certificate {P = g.row.P.Denot} g.P.Profile.serial_check c.args.self.now.bytes.now c.args.self.now.within c.args.self.now.checked in
    let content = c.content_of-octets.ensures 48 (validity.content v.0.tbs_certificate.validity) (tag_is_identifier Sequence) (ap (λ e. e.fields.validity) (elements_are g.P.Profile.serial_check c.args.self.now.bytes.now c.args.self.now.slices c.args.self.now.elements v.0 v.1)) in
    let refused = sym c.in_default.ensures ∙ ap (validity_contents {P = g.row.P.Denot}).reading content ∙ validity_read g.P.Profile.serial_check c.args.self.now.bytes.now v.0 v.1 in
    absurd cc

pub returns : goal.returns
returns g c = λ certificate spells.
    let content = c.content_of-octets.ensures 48 (validity.content certificate.tbs_certificate.validity) (tag_is_identifier Sequence) (ap (λ e. e.fields.validity) (elements_are g.P.Profile.serial_check c.args.self.now.bytes.now c.args.self.now.slices c.args.self.now.elements certificate spells)) in
    ok_is _ _ (sym c.in-Ok.ensures ∙ ap (validity_contents {P = g.row.P.Denot}).reading content ∙ validity_read g.P.Profile.serial_check c.args.self.now.bytes.now certificate spells)
