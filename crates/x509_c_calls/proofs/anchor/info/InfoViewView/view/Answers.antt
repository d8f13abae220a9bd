use Rattle.std.proofs.Common.{◌++◌, ◌∙◌, refl, ap}
use Rattle.x509_base.specs.SubjectPublicKeyInfo.{subject_public_key_info}
use Rattle.x509_base.specs.Profiles.{rfc5280_serial_number}
use Rattle.x509_c_calls.proofs.AnchorFields.{is_utf8, no_version, seven}
use Rattle.x509_c_calls.proofs.anchor.info.InfoViewView.view.Goals as goal
use Rattle.x509_c_calls.specs.Infos.{behind_controls, behind_key, behind_title, controls_text}
use Rattle.x509_c_calls.proofs.Octets.{is_implicit_2, is_list_1, is_octets, is_sequence}
use Rattle.x509_c_calls.proofs.Optional.{content_at}
use Rattle.x509_cert.specs.TrustAnchorInfo.{trust_anchor_info, trust_anchor_info_fields}
use Rattle.x509_cert.specs.AnchorVersion.{version, version_default}
use Rattle.x509_der.specs.Frames.{default_octets, explicit, fields_octets, implicit, optional_octets}
use Rattle.x509_der.specs.Form.{spelling}
use Rattle.x509_ext.specs.Extension.{extensions}
use Rattle.x509_prim.specs.OctetString.{octet_string}
use Rattle.x509_prim.specs.Texts.{utf8_string}

pub returns : goal.returns
unfolding fields_octets trust_anchor_info_fields
returns c = λ behind e.
    let it = c.args.value.now in
    let version_text = default_octets version_default (spelling version) it.version in
    let key_text = spelling subject_public_key_info it.pub_key in
    let id_text = spelling octet_string it.key_id in
    let title_text = optional_octets (spelling utf8_string) it.ta_title in
    let extensions_text = optional_octets (spelling (explicit 1 extensions)) it.extensions in
    let language_text = optional_octets (spelling (implicit 2 utf8_string)) it.ta_title_lang_tag in
    let inside = c.enter.ensures.stands 48 ((trust_anchor_info rfc5280_serial_number).content it) behind is_sequence e in
    let laid_out = inside.1 ∙ seven version_text key_text id_text title_text (controls_text it.cert_path) extensions_text language_text behind ∙ ap (λ x. x ++ (key_text ++ behind_key it behind)) (no_version it.version) in
    let key = c.step-subject_public_key_info.ensures.stands key_text (behind_key it behind) (48, subject_public_key_info.content it.pub_key, is_sequence, refl) laid_out in
    let id = c.step_content-key_identifier.ensures.stands 4 it.key_id (title_text ++ behind_title it behind) is_octets key.1 in
    let title = content_at utf8_string (λ v. is_utf8) it.ta_title _ (behind_title it behind) _ _ _ _ c.is_some.ensures id.1 c.step_optional_content-title.ensures.there c.step_optional_content-title.ensures.absent in
    let controls = c.step_controls.ensures.stands (behind_controls it behind) title.1 in
    let others = content_at (explicit 1 extensions) (λ v. is_list_1) it.extensions _ (language_text ++ behind) _ _ _ _ c.is_some-2.ensures controls.1 c.step_optional_content.ensures.there c.step_optional_content.ensures.absent in
    let language = content_at (implicit 2 utf8_string) (λ v. is_implicit_2) it.ta_title_lang_tag _ behind _ _ _ _ c.is_some-3.ensures others.1 c.step_optional_content-2.ensures.there c.step_optional_content-2.ensures.absent in
    record { subject_public_key_info = key.0; key_identifier = id.0; title = title.0; controls = controls.0; extensions = others.0; title_language = language.0 }
