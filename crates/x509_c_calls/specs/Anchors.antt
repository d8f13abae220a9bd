-- A trust anchor, by its places (RFC 5914 3).
use Rattle.std.specs.Prelude.{◌≡◌, ℕ, List, ◌++◌}
use Rattle.x509_base.specs.AlgorithmIdentifier.{algorithm_identifier}
use Rattle.x509_base.specs.Profiles.{rfc5280_serial_number}
use Rattle.x509_base.specs.declared.profile.Rfc5280.{Rfc5280}
use Rattle.x509_c_calls.specs.Infos.{IsInfo}
use Rattle.x509_c_calls.specs.AnchorParts.{IsPart}
use Rattle.x509_c_calls.specs.declared.anchor.anchor.AnchorView.{AnchorView}
use Rattle.x509_c_calls.specs.declared.anchor.info.InfoView.{InfoView}
use Rattle.x509_c_calls.specs.declared.anchor.part.PartView.{PartView}
use Rattle.x509_c_calls.specs.Optional.{IsNowhere}
use Rattle.x509_c_calls.specs.Place.{IsAt}
use Rattle.x509_cert.specs.TrustAnchorInfo.{trust_anchor_info}
use Rattle.x509_cert.specs.declared.anchor.trust_anchor_choice.TrustAnchorChoice.{TrustAnchorChoice}
use Rattle.x509_cert.specs.declared.anchor.trust_anchor_choice.TrustAnchorChoice.TheVariants.{Certificate, TbsCertificate, TaInfo}
use Rattle.x509_cert.specs.declared.anchor.trust_anchor_info.TrustAnchorInfo.{TrustAnchorInfo}
use Rattle.x509_cert.specs.Certificate.{certificate}
use Rattle.x509_cert.specs.TbsCertificate.{tbs_certificate}
use Rattle.x509_cert.specs.declared.certificate.certificate.CertificateInner.{CertificateInner}
use Rattle.x509_cert.specs.declared.certificate.tbs_certificate.TbsCertificateInner.{TbsCertificateInner}
use Rattle.x509_der.specs.Form.{spelling}
use Rattle.x509_prim.specs.BitString.{bit_string}

-- the parts of a certificate, and those of a description, among those of an anchor
abbrev pub part_of : AnchorView → PartView
part_of view = record { subject = view.name; subject_public_key_info = view.subject_public_key_info; extensions = view.extensions }

abbrev pub info_of : AnchorView → InfoView
info_of view =
    record { subject_public_key_info = view.subject_public_key_info; key_identifier = view.key_identifier; title = view.title; name = view.name; controls = view.controls; extensions = view.extensions; title_language = view.title_language }

-- what only a description has is nowhere
abbrev pub HasNoInfo : AnchorView → Type 0
HasNoInfo view = IsNowhere view.key_identifier × IsNowhere view.title × IsNowhere view.title_language × IsNowhere view.controls

-- what stands behind the signed part of a certificate
abbrev pub behind_part : CertificateInner Rfc5280 → List ℕ → List ℕ
behind_part it behind = spelling algorithm_identifier it.signature_algorithm ++ (spelling bit_string it.signature ++ behind)

-- what the view says in these bytes, behind which those others stand: of a certificate, of a TBSCertificate, and of a description
pub record IsCertificateAnchor (bytes : List ℕ) (it : CertificateInner Rfc5280) (behind : List ℕ) (view : AnchorView) : Type 0 where
  pub kind : view.kind ≡ 0
  pub element : IsAt (spelling (certificate rfc5280_serial_number) it) behind bytes view.element
  pub part : IsPart bytes it.tbs_certificate (behind_part it behind) (part_of view)
  pub others : HasNoInfo view

pub record IsPartAnchor (bytes : List ℕ) (it : TbsCertificateInner Rfc5280) (behind : List ℕ) (view : AnchorView) : Type 0 where
  pub kind : view.kind ≡ 1
  pub element : IsAt (spelling (tbs_certificate rfc5280_serial_number) it) behind bytes view.element
  pub part : IsPart bytes it behind (part_of view)
  pub others : HasNoInfo view

pub record IsInfoAnchor (bytes : List ℕ) (it : TrustAnchorInfo Rfc5280) (behind : List ℕ) (view : AnchorView) : Type 0 where
  pub kind : view.kind ≡ 2
  pub element : IsAt (spelling (trust_anchor_info rfc5280_serial_number) it) behind bytes view.element
  pub info : IsInfo bytes it behind (info_of view)

-- the same of an anchor, by its case
abbrev pub IsAnchor : List ℕ → TrustAnchorChoice Rfc5280 → List ℕ → AnchorView → Type 0
IsAnchor bytes (Certificate it) behind view = IsCertificateAnchor bytes it behind view
IsAnchor bytes (TbsCertificate it) behind view = IsPartAnchor bytes it behind view
IsAnchor bytes (TaInfo it) behind view = IsInfoAnchor bytes it behind view
