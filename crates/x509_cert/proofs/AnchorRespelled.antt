-- What is written of trust anchors that are written alike.
use Rattle.std.proofs.Common.{◌≡◌, ℕ, List, Result, refl}
use Rattle.x509_base.specs.Validity.{validity}
use Rattle.x509_base.specs.declared.validity.Validity.{Validity}
use Rattle.x509_cert.specs.CertPathControls.{cert_path_controls, cert_path_controls_fields, cert_path_controls_lawful, cert_path_controls_stable, controls_writing}
use Rattle.x509_cert.specs.AnchorRespelling.{any_cert_path_controls, any_trust_anchor_choice, any_trust_anchor_info}
use Rattle.x509_cert.specs.TrustAnchorChoice.{trust_anchor_choice, trust_anchor_choice_lawful, trust_anchor_choice_stable, written_anchor}
use Rattle.x509_cert.specs.TrustAnchorInfo.{trust_anchor_info, trust_anchor_info_fields, trust_anchor_info_lawful, trust_anchor_info_stable, info_writing}
use Rattle.x509_cert.specs.declared.anchor.cert_path_controls.CertPathControls.{CertPathControls}
use Rattle.x509_cert.specs.declared.anchor.trust_anchor_choice.TrustAnchorChoice.{TrustAnchorChoice}
use Rattle.x509_cert.specs.declared.anchor.trust_anchor_choice.TrustAnchorChoice.TheVariants.{Certificate, TbsCertificate, TaInfo}
use Rattle.x509_cert.specs.declared.anchor.trust_anchor_info.TrustAnchorInfo.{TrustAnchorInfo}
use Rattle.x509_cert.specs.Certificate.{certificate_fields, certificate_stable, certificate_writing}
use Rattle.x509_cert.specs.Respelling.{any_certificate, any_tbs_certificate, no_check}
use Rattle.x509_cert.specs.TbsCertificate.{tbs_certificate_fields, tbs_certificate_stable, tbs_certificate_writing}
use Rattle.x509_cert.specs.declared.certificate.certificate.CertificateInner.{CertificateInner}
use Rattle.x509_cert.specs.declared.certificate.tbs_certificate.TbsCertificateInner.{TbsCertificateInner}
use Rattle.x509_der.specs.declared.error.ErrorKind.{ErrorKind}
use Rattle.x509_der.specs.Cases.{choice_content, choice_tag}
use Rattle.x509_der.specs.Frames.{fields_octets}
use Rattle.x509_der.specs.Form.{spelling}
use Rattle.x509_der.specs.StableLaws.{spelled_alike}
use Rattle.x509_der.specs.Writing.{Writing, respelling, IsStable, RespellsAlike}

module _ {P : Type 0} (check : List ℕ → Result Unit ErrorKind) (writing : Writing (Validity P)) (stable : IsStable (validity {P = P}).good writing) where
  abbrev signed_parts : Writing (TbsCertificateInner P)
  signed_parts = tbs_certificate_writing writing

  abbrev certificates : Writing (CertificateInner P)
  certificates = certificate_writing signed_parts

  abbrev controls : Writing (CertPathControls P)
  controls = controls_writing certificates

  abbrev infos : Writing (TrustAnchorInfo P)
  infos = info_writing controls

  abbrev anchors : Writing (TrustAnchorChoice P)
  anchors = respelling (written_anchor certificates signed_parts infos)

  signed_parts_stable : IsStable (any_tbs_certificate {P = P}).good signed_parts
  signed_parts_stable = tbs_certificate_stable no_check writing stable

  certificates_stable : IsStable (any_certificate {P = P}).good certificates
  certificates_stable = certificate_stable no_check signed_parts signed_parts_stable

  controls_stable : IsStable (any_cert_path_controls {P = P}).good controls
  controls_stable = cert_path_controls_stable no_check certificates certificates_stable

  infos_stable : IsStable (any_trust_anchor_info {P = P}).good infos
  infos_stable = trust_anchor_info_stable no_check controls controls_stable

  anchors_stable : IsStable (any_trust_anchor_choice {P = P}).good anchors
  anchors_stable = trust_anchor_choice_stable no_check certificates signed_parts infos certificates_stable signed_parts_stable infos_stable

  pub controls_alike : RespellsAlike (cert_path_controls check) (any_cert_path_controls {P = P}).good controls
  unfolding fields_octets cert_path_controls_fields certificate_fields tbs_certificate_fields
  controls_alike = spelled_alike (cert_path_controls check) any_cert_path_controls (cert_path_controls_lawful no_check) (λ v. refl) controls controls_stable

  pub infos_alike : RespellsAlike (trust_anchor_info check) (any_trust_anchor_info {P = P}).good infos
  unfolding fields_octets trust_anchor_info_fields cert_path_controls_fields certificate_fields tbs_certificate_fields
  infos_alike = spelled_alike (trust_anchor_info check) any_trust_anchor_info (trust_anchor_info_lawful no_check) (λ v. refl) infos infos_stable

  same_spelling : (v : TrustAnchorChoice P) → spelling (trust_anchor_choice check) v ≡ spelling any_trust_anchor_choice v
  unfolding choice_tag choice_content fields_octets trust_anchor_info_fields cert_path_controls_fields certificate_fields tbs_certificate_fields
  same_spelling (Certificate whole) = refl
  same_spelling (TbsCertificate signed) = refl
  same_spelling (TaInfo info) = refl

  pub anchors_alike : RespellsAlike (trust_anchor_choice check) (any_trust_anchor_choice {P = P}).good anchors
  anchors_alike = spelled_alike (trust_anchor_choice check) any_trust_anchor_choice (trust_anchor_choice_lawful no_check) same_spelling anchors anchors_stable
