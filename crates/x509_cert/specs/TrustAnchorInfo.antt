-- TrustAnchorInfo: version: Version=V1, pub_key: SubjectPublicKeyInfo, key_id: OCTET STRING, ta_title: UTF8String?,
-- cert_path: CertPathControls?, extensions: {1}list Extension?, ta_title_lang_tag: [2]UTF8String? (RFC 5914 2)
use Rattle.std.specs.Prelude.{ℕ, List, Option, Result, refl}
use Rattle.x509_base.specs.SubjectPublicKeyInfo.{subject_public_key_info, subject_public_key_info_lawful}
use Rattle.x509_base.specs.declared.subject_public_key_info.SubjectPublicKeyInfo.{SubjectPublicKeyInfo}
use Rattle.x509_base.specs.Checked.{CheckRefuses}
use Rattle.x509_der.specs.declared.error.ErrorKind.{ErrorKind}
use Rattle.x509_der.specs.declared.tag.Tag.TheVariants.{Sequence}
use Rattle.x509_der.specs.Frames.{Part, required, optional, defaulted, implicit, explicit, ◌⊗◌, fields, fields_good}
use Rattle.x509_der.specs.PartRules.{part_rules}
use Rattle.x509_der.specs.Form.{Form, IsForm, Contents, IsContents, universal}
use Rattle.x509_der.specs.FormLaws.{universal_lawful}
use Rattle.x509_der.specs.StableLaws.{with_field_stable, in_option_stable}
use Rattle.x509_der.specs.Writing.{Writing, with_field, in_option, IsStable}
use Rattle.x509_ext.specs.Extension.{extensions, extensions_lawful}
use Rattle.x509_ext.specs.declared.extension.Extension.{Extension}
use Rattle.x509_prim.specs.OctetString.{octet_string, octet_string_lawful}
use Rattle.x509_prim.specs.Texts.{utf8_string, utf8_string_lawful}
use Rattle.x509_cert.specs.CertPathControls.{cert_path_controls, cert_path_controls_lawful}
use Rattle.x509_cert.specs.AnchorVersion.{version, version_lawful, version_default, version_default_lawful}
use Rattle.x509_cert.specs.declared.anchor.cert_path_controls.CertPathControls.{CertPathControls}
use Rattle.x509_cert.specs.declared.anchor.trust_anchor_info.TrustAnchorInfo.{TrustAnchorInfo}
use Rattle.x509_cert.specs.declared.anchor.version.Version.{Version}

abbrev pub Front : Type 0
Front = Version × (SubjectPublicKeyInfo × (List ℕ × Option (List ℕ)))

abbrev pub Behind : Type 0 → Type 0
Behind P = Option (CertPathControls P) × (Option (List Extension) × Option (List ℕ))

-- the fields up to the title, and those behind it
abbrev pub trust_anchor_info_front : Part Front
trust_anchor_info_front = defaulted version_default version ⊗ (required subject_public_key_info ⊗ (required octet_string ⊗ optional utf8_string))

abbrev pub trust_anchor_info_behind : {P : Type 0} → (List ℕ → Result Unit ErrorKind) → Part (Behind P)
trust_anchor_info_behind check = optional (cert_path_controls check) ⊗ (optional (explicit 1 extensions) ⊗ optional (implicit 2 utf8_string))

unfoldable pub trust_anchor_info_fields : {P : Type 0} → (List ℕ → Result Unit ErrorKind) → Part (Front × Behind P)
trust_anchor_info_fields check = trust_anchor_info_front ⊗ trust_anchor_info_behind check

abbrev pub trust_anchor_info_contents : {P : Type 0} → (List ℕ → Result Unit ErrorKind) → Contents (TrustAnchorInfo P)
trust_anchor_info_contents check = fields
    (λ t. ((t.version, (t.pub_key, (t.key_id, t.ta_title))), (t.cert_path, (t.extensions, t.ta_title_lang_tag))))
    (λ ((version, (pub_key, (key_id, ta_title))), (cert_path, (extensions, ta_title_lang_tag))). record { version = version; pub_key = pub_key; key_id = key_id; ta_title = ta_title; cert_path = cert_path; extensions = extensions; ta_title_lang_tag = ta_title_lang_tag })
    (trust_anchor_info_fields check)

abbrev pub trust_anchor_info : {P : Type 0} → (List ℕ → Result Unit ErrorKind) → Form (TrustAnchorInfo P)
trust_anchor_info check = universal Sequence (trust_anchor_info_contents check)

pub trust_anchor_info_contents_lawful : {P : Type 0} (check : List ℕ → Result Unit ErrorKind) → IsContents (CheckRefuses check) (trust_anchor_info_contents {P = P} check)
unfolding trust_anchor_info_fields
trust_anchor_info_contents_lawful check = search (part_rules, version_default_lawful, version_lawful, subject_public_key_info_lawful, octet_string_lawful, utf8_string_lawful, cert_path_controls_lawful, extensions_lawful) depth 20

pub trust_anchor_info_lawful : {P : Type 0} (check : List ℕ → Result Unit ErrorKind) → IsForm (CheckRefuses check) (trust_anchor_info {P = P} check)
trust_anchor_info_lawful check = universal_lawful Sequence (trust_anchor_info_contents check) (trust_anchor_info_contents_lawful check)

-- ---- what is written

-- what is asked of paths as it is written alone
abbrev pub info_writing : {P : Type 0} → Writing (CertPathControls P) → Writing (TrustAnchorInfo P)
info_writing controls = with_field (λ t. t.cert_path) (λ t cert_path. record t { cert_path = cert_path }) (in_option controls)

pub trust_anchor_info_stable : {P : Type 0} (check : List ℕ → Result Unit ErrorKind) (controls : Writing (CertPathControls P)) → IsStable (cert_path_controls {P = P} check).good controls → IsStable (trust_anchor_info {P = P} check).good (info_writing controls)
unfolding trust_anchor_info_fields fields_good
trust_anchor_info_stable check controls stable = with_field_stable (λ t. t.cert_path) (λ t cert_path. record t { cert_path = cert_path }) (in_option controls) (λ t path. refl) (λ t path other. refl) (λ t g. g.1.0) (λ t path g h. (g.0, (h, g.1.1))) (in_option_stable controls stable)
