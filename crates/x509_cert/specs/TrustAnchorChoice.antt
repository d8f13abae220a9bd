-- TrustAnchorChoice: CertificateInner (Certificate) / {1}TbsCertificateInner (TbsCertificate) / {2}TrustAnchorInfo (TaInfo)
-- (RFC 5914 3)
use Rattle.std.specs.Prelude.{◌≡◌, ℕ, List, None, Result, refl}
use Rattle.x509_base.specs.Checked.{CheckRefuses}
use Rattle.x509_base.specs.Profiles.{rfc5280_serial_number}
use Rattle.x509_base.specs.declared.profile.Rfc5280.{Rfc5280}
use Rattle.x509_cert.specs.Certificate.{certificate, certificate_lawful}
use Rattle.x509_cert.specs.TbsCertificate.{tbs_certificate, tbs_certificate_lawful}
use Rattle.x509_cert.specs.declared.certificate.certificate.CertificateInner.{CertificateInner}
use Rattle.x509_cert.specs.declared.certificate.tbs_certificate.TbsCertificateInner.{TbsCertificateInner}
use Rattle.x509_der.specs.declared.error.ErrorKind.{ErrorKind}
use Rattle.x509_der.specs.Cases.{Cases, ◌∥◌, ◌holds◌, none, CaseOf, choice, choice_tag, choice_good, choice_lawful}
use Rattle.x509_der.specs.FrameLaws.{explicit_lawful}
use Rattle.x509_der.specs.Frames.{explicit}
use Rattle.x509_der.specs.Form.{Form, IsForm}
use Rattle.x509_der.specs.Writing.{Written, Writing, respelling, writes, IsStable}
use Rattle.x509_cert.specs.TrustAnchorInfo.{trust_anchor_info, trust_anchor_info_lawful}
use Rattle.x509_cert.specs.declared.anchor.trust_anchor_choice.TrustAnchorChoice.{TrustAnchorChoice}
use Rattle.x509_cert.specs.declared.anchor.trust_anchor_choice.TrustAnchorChoice.TheVariants.{Certificate, TbsCertificate, TaInfo}
use Rattle.x509_cert.specs.declared.anchor.trust_anchor_info.TrustAnchorInfo.{TrustAnchorInfo}

abbrev pub anchor_cases : {P : Type 0} → (List ℕ → Result Unit ErrorKind) → Cases (TrustAnchorChoice P)
anchor_cases check =
    Certificate holds certificate check
    ∥ TbsCertificate holds explicit 1 (tbs_certificate check)
    ∥ TaInfo holds explicit 2 (trust_anchor_info check)
    ∥ none

abbrev pub anchor_case : {P : Type 0} (check : List ℕ → Result Unit ErrorKind) (v : TrustAnchorChoice P) → CaseOf (anchor_cases check) v
anchor_case check (Certificate whole) = (0, (whole, refl))
anchor_case check (TbsCertificate signed) = (1, (signed, refl))
anchor_case check (TaInfo info) = (2, (info, refl))

abbrev pub trust_anchor_choice : {P : Type 0} → (List ℕ → Result Unit ErrorKind) → Form (TrustAnchorChoice P)
trust_anchor_choice check = choice (anchor_cases check) (anchor_case check)

pub trust_anchor_choice_lawful : {P : Type 0} (check : List ℕ → Result Unit ErrorKind) → IsForm (CheckRefuses check) (trust_anchor_choice {P = P} check)
trust_anchor_choice_lawful check = choice_lawful (anchor_cases check) (anchor_case check) refl (
  (certificate_lawful check, λ x. refl),
  ((explicit_lawful 1 _ refl (tbs_certificate_lawful check), λ x. refl), ((explicit_lawful 2 _ refl (trust_anchor_info_lawful check), λ x. refl), tt)),
)

-- ---- what is written

-- what is written of what stands in a case, in that case
abbrev in_case : {X E : Type 0} → (X → E) → Writing X → X → Written E
in_case make writing x = record { value = make (writes writing x).value; refusal = (writes writing x).refusal }

abbrev pub written_anchor : {P : Type 0} → Writing (CertificateInner P) → Writing (TbsCertificateInner P) → Writing (TrustAnchorInfo P) → TrustAnchorChoice P → Written (TrustAnchorChoice P)
written_anchor certificates signed_parts infos (Certificate whole) = in_case Certificate certificates whole
written_anchor certificates signed_parts infos (TbsCertificate signed) = in_case TbsCertificate signed_parts signed
written_anchor certificates signed_parts infos (TaInfo info) = in_case TaInfo infos info

module _ {P : Type 0} (check : List ℕ → Result Unit ErrorKind) (certificates : Writing (CertificateInner P)) (signed_parts : Writing (TbsCertificateInner P)) (infos : Writing (TrustAnchorInfo P)) where
  abbrev written : TrustAnchorChoice P → Written (TrustAnchorChoice P)
  written v = written_anchor certificates signed_parts infos v

  abbrev good : TrustAnchorChoice P → Type 0
  good = (trust_anchor_choice check).good

  pub trust_anchor_choice_same_tag : (v : TrustAnchorChoice P) → (trust_anchor_choice {P = P} check).tag (written v).value ≡ (trust_anchor_choice {P = P} check).tag v
  unfolding choice_tag
  trust_anchor_choice_same_tag (Certificate whole) = refl
  trust_anchor_choice_same_tag (TbsCertificate signed) = refl
  trust_anchor_choice_same_tag (TaInfo info) = refl

  module _ (wholes_stable : IsStable (certificate {P = P} check).good certificates) (signed_stable : IsStable (tbs_certificate {P = P} check).good signed_parts) (infos_stable : IsStable (trust_anchor_info {P = P} check).good infos) where
    kept : (v : TrustAnchorChoice P) → good v → (written v).refusal ≡ None → good (written v).value
    unfolding choice_good
    kept (Certificate whole) g free = wholes_stable.kept whole g free
    kept (TbsCertificate signed) g free = signed_stable.kept signed g free
    kept (TaInfo info) g free = infos_stable.kept info g free

    again : (v : TrustAnchorChoice P) → good v → (written v).refusal ≡ None → written (written v).value ≡ record { value = (written v).value; refusal = None }
    unfolding choice_good
    again (Certificate whole) g free = rw (wholes_stable.again whole g free) refl
    again (TbsCertificate signed) g free = rw (signed_stable.again signed g free) refl
    again (TaInfo info) g free = rw (infos_stable.again info g free) refl

    -- what is written once more is as it was, where it is so in each case
    pub trust_anchor_choice_stable : IsStable (trust_anchor_choice {P = P} check).good (respelling (written_anchor certificates signed_parts infos))
    trust_anchor_choice_stable = record { kept = kept; again = again }

-- ---- under Rfc5280

abbrev pub rfc5280_trust_anchor_choice : Form (TrustAnchorChoice Rfc5280)
rfc5280_trust_anchor_choice = trust_anchor_choice rfc5280_serial_number
