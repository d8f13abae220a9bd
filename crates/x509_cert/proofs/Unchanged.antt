-- What is written of trust anchors where each date stays as it is.
use Rattle.std.proofs.Common.{◌≡◌, ℕ, List, Option, Some, None, Result, Ok, refl, ap}
use Rattle.std.specs.Prelude.{IfSome}
use Rattle.x509_base.specs.Validity.{respelled_validity}
use Rattle.x509_base.specs.declared.validity.Validity.{Validity}
use Rattle.x509_cert.specs.CertPathControls.{cert_path_controls, cert_path_controls_fields, controls_writing}
use Rattle.x509_cert.specs.CertPolicies.{cert_policies, cert_policies_names, cert_policies_set}
use Rattle.x509_cert.specs.AnchorRespelling.{GoodStay}
use Rattle.x509_cert.specs.TrustAnchorChoice.{trust_anchor_choice, written_anchor}
use Rattle.x509_cert.specs.TrustAnchorInfo.{trust_anchor_info, trust_anchor_info_fields, info_writing}
use Rattle.x509_cert.specs.TwoFields.{with_two_fields_stays}
use Rattle.x509_cert.specs.declared.anchor.cert_path_controls.CertPathControls.{CertPathControls}
use Rattle.x509_cert.specs.declared.anchor.trust_anchor_choice.TrustAnchorChoice.{TrustAnchorChoice}
use Rattle.x509_cert.specs.declared.anchor.trust_anchor_choice.TrustAnchorChoice.TheVariants.{Certificate, TbsCertificate, TaInfo}
use Rattle.x509_cert.specs.declared.anchor.trust_anchor_info.TrustAnchorInfo.{TrustAnchorInfo}
use Rattle.x509_cert.specs.Certificate.{certificate_writing}
use Rattle.x509_cert.specs.TbsCertificate.{tbs_certificate_writing}
use Rattle.x509_cert.specs.declared.certificate.certificate.CertificateInner.{CertificateInner}
use Rattle.x509_cert.specs.declared.certificate.tbs_certificate.TbsCertificateInner.{TbsCertificateInner}
use Rattle.x509_der.specs.declared.error.ErrorKind.{ErrorKind}
use Rattle.x509_der.specs.Cases.{choice_good}
use Rattle.x509_der.specs.Frames.{fields_good}
use Rattle.x509_der.specs.Writing.{Writing, Written, plain, respelling, writes, with_field, in_option}
use Rattle.x509_prim.specs.NamedBits.{flag_writing}

-- ---- parts

option_stays : {X : Type 0} (good : X → Type 0) (writing : Writing X) → GoodStay good writing → GoodStay (λ (value : Option X). IfSome value good) (in_option writing)
option_stays good plain stays value g = refl
option_stays good (respelling by) stays None g = refl
option_stays good (respelling by) stays (Some x) g = rw (stays x g) refl

field_stays : {X Y : Type 0} (get : X → Y) (put : X → Y → X) (writing : Writing Y) (x : X) → writes writing (get x) ≡ record { value = get x; refusal = None } → put x (get x) ≡ x
    → writes (with_field get put writing) x ≡ record { value = x; refusal = None }
field_stays get put plain x stays same = refl
field_stays get put (respelling by) x stays same = rw (stays, same) refl

flags_stay : GoodStay cert_policies.good (flag_writing cert_policies_set cert_policies_names)
flags_stay policies g = rw g.1 refl

-- ---- anchors

abbrev signed_parts : {P : Type 0} → Writing (TbsCertificateInner P)
signed_parts = tbs_certificate_writing (respelling (respelled_validity (λ time. Ok time)))

abbrev certificates : {P : Type 0} → Writing (CertificateInner P)
certificates = certificate_writing signed_parts

module _ {P : Type 0} (check : List ℕ → Result Unit ErrorKind) where
  abbrev controls : Writing (CertPathControls P)
  controls = controls_writing certificates

  abbrev infos : Writing (TrustAnchorInfo P)
  infos = info_writing controls

  pub controls_stay : GoodStay (cert_path_controls {P = P} check).good controls
  unfolding cert_path_controls_fields fields_good
  controls_stay c g =
      with_two_fields_stays (λ (c : CertPathControls P). c.certificate) (λ c. c.policy_flags) (λ c certificate flags. record c { certificate = certificate; policy_flags = flags }) (in_option certificates) (in_option (flag_writing cert_policies_set cert_policies_names)) c
      (option_stays _ certificates (λ v h. refl) c.certificate g.0.1.0) (option_stays _ (flag_writing cert_policies_set cert_policies_names) flags_stay c.policy_flags g.1.0) refl

  pub infos_stay : GoodStay (trust_anchor_info {P = P} check).good infos
  unfolding trust_anchor_info_fields fields_good
  infos_stay t g = field_stays (λ (t : TrustAnchorInfo P). t.cert_path) (λ t cert_path. record t { cert_path = cert_path }) (in_option controls) t (option_stays _ controls controls_stay t.cert_path g.1.0) refl

  abbrev in_third : Written (TrustAnchorInfo P) → Written (TrustAnchorChoice P)
  in_third written = record { value = TaInfo written.value; refusal = written.refusal }

  pub anchors_stay : GoodStay (trust_anchor_choice {P = P} check).good (respelling (written_anchor certificates signed_parts infos))
  unfolding choice_good
  anchors_stay (Certificate whole) g = refl
  anchors_stay (TbsCertificate signed) g = refl
  anchors_stay (TaInfo info) g = ap in_third (infos_stay info g)
