-- A description of a trust anchor, by its places (RFC 5914 2).
use Rattle.std.specs.Prelude.{ℕ, List, ◌++◌, Option, Some, None}
use Rattle.x509_base.specs.SubjectPublicKeyInfo.{subject_public_key_info}
use Rattle.x509_base.specs.Profiles.{rfc5280_serial_number}
use Rattle.x509_base.specs.declared.profile.Rfc5280.{Rfc5280}
use Rattle.x509_c_calls.specs.Controls.{behind_name}
use Rattle.x509_c_calls.specs.declared.anchor.info.InfoView.{InfoView}
use Rattle.x509_c_calls.specs.Optional.{IsNowhere, IsPerhapsAt}
use Rattle.x509_c_calls.specs.Place.{IsAt}
use Rattle.x509_c_calls.specs.declared.place.span.Span.{Span}
use Rattle.x509_cert.specs.CertPathControls.{cert_path_controls}
use Rattle.x509_cert.specs.declared.anchor.cert_path_controls.CertPathControls.{CertPathControls}
use Rattle.x509_cert.specs.declared.anchor.trust_anchor_info.TrustAnchorInfo.{TrustAnchorInfo}
use Rattle.x509_der.specs.Frames.{explicit, implicit, optional_octets}
use Rattle.x509_der.specs.Form.{spelling}
use Rattle.x509_ext.specs.Extension.{extensions}
use Rattle.x509_name.specs.Names.{name}
use Rattle.x509_prim.specs.OctetString.{octet_string}
use Rattle.x509_prim.specs.Texts.{utf8_string}

-- the constraints on paths as they are written
abbrev pub controls_text : Option (CertPathControls Rfc5280) → List ℕ
controls_text controls = optional_octets (spelling (cert_path_controls rfc5280_serial_number)) controls

-- ---- what stands behind the parts, where those octets stand behind the whole

abbrev pub behind_controls : TrustAnchorInfo Rfc5280 → List ℕ → List ℕ
behind_controls info behind =
    optional_octets (spelling (explicit 1 extensions)) info.extensions ++ (optional_octets (spelling (implicit 2 utf8_string)) info.ta_title_lang_tag ++ behind)

abbrev pub behind_title : TrustAnchorInfo Rfc5280 → List ℕ → List ℕ
behind_title info behind = controls_text info.cert_path ++ behind_controls info behind

abbrev pub behind_key : TrustAnchorInfo Rfc5280 → List ℕ → List ℕ
behind_key info behind = spelling octet_string info.key_id ++ (optional_octets (spelling utf8_string) info.ta_title ++ behind_title info behind)

-- where the constraints stand, with those octets behind them, and the name that they begin with
abbrev pub IsControlled : Option (CertPathControls Rfc5280) → List ℕ → List ℕ → Span → Span → Type 0
IsControlled None behind bytes controls anchor = IsNowhere controls × IsNowhere anchor
IsControlled (Some it) behind bytes controls anchor =
    IsAt (spelling (cert_path_controls rfc5280_serial_number) it) behind bytes controls × IsAt (spelling name it.ta_name) (behind_name it behind) bytes anchor

-- what the view says of a description in these bytes, behind which those others stand
pub record IsInfo (bytes : List ℕ) (info : TrustAnchorInfo Rfc5280) (behind : List ℕ) (view : InfoView) : Type 0 where
  pub subject_public_key_info : IsAt (spelling subject_public_key_info info.pub_key) (behind_key info behind) bytes view.subject_public_key_info
  pub key_identifier : IsAt info.key_id (optional_octets (spelling utf8_string) info.ta_title ++ behind_title info behind) bytes view.key_identifier
  pub title : IsPerhapsAt (λ text. text) info.ta_title (behind_title info behind) bytes view.title
  pub controls : IsControlled info.cert_path (behind_controls info behind) bytes view.controls view.name
  pub extensions : IsPerhapsAt (spelling extensions) info.extensions (optional_octets (spelling (implicit 2 utf8_string)) info.ta_title_lang_tag ++ behind) bytes view.extensions
  pub title_language : IsPerhapsAt (λ text. text) info.ta_title_lang_tag behind bytes view.title_language
