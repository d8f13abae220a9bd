-- What is to hold of trust anchors that a program made, so that each is a value of its grammar: the serial numbers of the
-- certificates in them are allowed, and each bit of the policy flags has a name (RFC 5914 2.5).
use Rattle.std.specs.Prelude.{◌≡◌, ℕ, List, Some, true}
use Rattle.x509_cert.specs.CertPolicies.{cert_policies_names}
use Rattle.x509_cert.specs.declared.anchor.cert_path_controls.CertPathControls.{CertPathControls}
use Rattle.x509_cert.specs.declared.anchor.cert_policies.CertPolicies.{CertPolicies}
use Rattle.x509_cert.specs.declared.anchor.trust_anchor_choice.TrustAnchorChoice.{TrustAnchorChoice}
use Rattle.x509_cert.specs.declared.anchor.trust_anchor_choice.TrustAnchorChoice.TheVariants.{Certificate, TbsCertificate, TaInfo}
use Rattle.x509_cert.specs.declared.anchor.trust_anchor_info.TrustAnchorInfo.{TrustAnchorInfo}
use Rattle.x509_cert.specs.declared.certificate.certificate.CertificateInner.{CertificateInner}
use Rattle.x509_prim.specs.NamedBits.{has_names}

-- a bit from 3 on isn't set
abbrev pub HasNamedFlags : CertPolicies → Type 0
HasNamedFlags policies = has_names cert_policies_names policies.0 ≡ true

module _ {P : Type 0} (stands : List ℕ → Type 0) where
  abbrev pub MadeControls : CertPathControls P → Type 0
  MadeControls controls =
      ((certificate : CertificateInner P) → controls.certificate ≡ Some certificate → stands certificate.tbs_certificate.serial_number)
      × ((policies : CertPolicies) → controls.policy_flags ≡ Some policies → HasNamedFlags policies)

  abbrev pub MadeInfo : TrustAnchorInfo P → Type 0
  MadeInfo info = (controls : CertPathControls P) → info.cert_path ≡ Some controls → MadeControls controls

  abbrev pub MadeAnchor : TrustAnchorChoice P → Type 0
  MadeAnchor (Certificate whole) = stands whole.tbs_certificate.serial_number
  MadeAnchor (TbsCertificate signed) = stands signed.serial_number
  MadeAnchor (TaInfo info) = MadeInfo info
