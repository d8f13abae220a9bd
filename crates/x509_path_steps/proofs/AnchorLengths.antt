-- What a decoded trust anchor gives is no longer than its bytes.
use Rattle.std.proofs.Common.{◌≡◌, ◌⊎◌, ◌∙◌, inl, inr, ℕ, ◌<◌, ◌≤◌, List, length, Option, Some, None, Result, Ok, Err, refl, sym, ap, arith, length-append, subst}
use Rattle.std.specs.Prelude.{MatchResult}
use Rattle.x509_base.specs.Profiles.{rfc5280_serial_number}
use Rattle.x509_base.specs.SubjectPublicKeyInfo.{subject_public_key_info}
use Rattle.x509_base.specs.declared.profile.Rfc5280.{Rfc5280}
use Rattle.x509_cert.specs.CertPathControls.{cert_path_controls, cert_path_controls_fields}
use Rattle.x509_cert.specs.Certificate.{certificate_fields, rfc5280_certificate}
use Rattle.x509_cert.specs.TbsCertificate.{rfc5280_tbs_certificate, tbs_certificate_fields}
use Rattle.x509_cert.specs.TrustAnchorChoice.{rfc5280_trust_anchor_choice}
use Rattle.x509_cert.specs.TrustAnchorInfo.{trust_anchor_info, trust_anchor_info_fields}
use Rattle.x509_cert.specs.declared.anchor.cert_path_controls.CertPathControls.{CertPathControls}
use Rattle.x509_cert.specs.declared.anchor.trust_anchor_choice.TrustAnchorChoice.{TrustAnchorChoice}
use Rattle.x509_cert.specs.declared.anchor.trust_anchor_choice.TrustAnchorChoice.TheVariants.{Certificate as Whole, TbsCertificate, TaInfo}
use Rattle.x509_cert.specs.declared.anchor.trust_anchor_info.TrustAnchorInfo.{TrustAnchorInfo}
use Rattle.x509_cert.specs.declared.certificate.tbs_certificate.TbsCertificateInner.{TbsCertificateInner}
use Rattle.x509_der.specs.Cases.{choice_content, choice_tag}
use Rattle.x509_der.specs.Element.{element, limit}
use Rattle.x509_der.specs.Form.{Form, Spells, spelling}
use Rattle.x509_der.specs.Frames.{fields_octets, implicit, optional_octets}
use Rattle.x509_der.specs.declared.error.Error.{Error}
use Rattle.x509_der.specs.declared.error.ErrorKind.TheVariants.{Memory}
use Rattle.x509_ext.specs.CertificatePolicies.{certificate_policies}
use Rattle.x509_ext.specs.Identifiers.{id_ce}
use Rattle.x509_ext.specs.LookUp.{members}
use Rattle.x509_ext.specs.NameConstraints.{name_constraints}
use Rattle.x509_ext.specs.declared.extension.Extension.{Extension}
use Rattle.x509_ext.specs.declared.pkix.certificate_policies.CertificatePolicies.{CertificatePolicies}
use Rattle.x509_ext.specs.declared.pkix.name_constraints.NameConstraints.{NameConstraints}
use Rattle.x509_name.specs.Names.{name}
use Rattle.x509_path.proofs.Lent.{content_within, inside}
use Rattle.x509_path.specs.Certificates.{Certificate, extensions_of}
use Rattle.x509_path_steps.specs.Inputs.{Trust}
use Rattle.x509_path_steps.specs.Trusts.{AreOwnLimits, HoldsTrust, IsNoAnchor, IsOverlong, IsTrustOf, IsTrustOfAnchor, IsTrustOfInfo, IsUntrusted, IsValueOf, RefusesAnchor, RefusesTrust, or_else}
use Rattle.x509_path_steps.specs.declared.limits.Limits.{Limits}
use Rattle.x509_path_steps.specs.declared.trusted_buf.TrustedBuf.{TrustedBuf}

-- ---- parts within a whole

-- under another identifier octet an element is as long
as_long : (s t : ℕ) (content : List ℕ) → length (element s content) ≡ length (element t content)
unfolding element
as_long s t content = refl

module _ (t : TbsCertificateInner Rfc5280) where
  subject_within : length (spelling name t.subject) ≤ length (spelling rfc5280_tbs_certificate t)
  unfolding tbs_certificate_fields fields_octets
  subject_within = inside 48 _ _ _ refl (omega (arith, length-append {A = ℕ}))

  key_within : length (spelling subject_public_key_info t.subject_public_key_info) ≤ length (spelling rfc5280_tbs_certificate t)
  unfolding tbs_certificate_fields fields_octets
  key_within = inside 48 _ _ _ refl (omega (arith, length-append {A = ℕ}))

part_within : (c : Certificate) → length (spelling rfc5280_tbs_certificate c.tbs_certificate) ≤ length (spelling rfc5280_certificate c)
unfolding certificate_fields fields_octets
part_within c = inside 48 _ _ _ refl (omega (arith, length-append {A = ℕ}))

module _ (controls : CertPathControls Rfc5280) where
  abbrev within_controls : ℕ
  within_controls = length (spelling (cert_path_controls rfc5280_serial_number) controls)

  name_within : length (spelling name controls.ta_name) ≤ within_controls
  unfolding cert_path_controls_fields fields_octets
  name_within = inside 48 _ _ _ refl (omega (arith, length-append {A = ℕ}))

  constraints_part : length (optional_octets (spelling (implicit 3 name_constraints)) controls.name_constr) ≤ within_controls
  unfolding cert_path_controls_fields fields_octets
  constraints_part = inside 48 _ _ _ refl (omega (arith, length-append {A = ℕ}))

  constraints_within : (asks : NameConstraints) → controls.name_constr ≡ Some asks → length (spelling name_constraints asks) ≤ within_controls
  constraints_within asks is =
      let part : length (element 163 (name_constraints.content asks)) ≤ within_controls = subst (λ o. length (optional_octets (spelling (implicit 3 name_constraints)) o) ≤ within_controls) is constraints_part in
      omega (arith, part, as_long 163 48 (name_constraints.content asks))

  policies_part : length (optional_octets (spelling (implicit 1 certificate_policies)) controls.policy_set) ≤ within_controls
  unfolding cert_path_controls_fields fields_octets
  policies_part = inside 48 _ _ _ refl (omega (arith, length-append {A = ℕ}))

  policies_within : (set : CertificatePolicies) → controls.policy_set ≡ Some set → length (spelling certificate_policies set) ≤ within_controls
  policies_within set is =
      let part : length (element 161 (certificate_policies.content set)) ≤ within_controls = subst (λ o. length (optional_octets (spelling (implicit 1 certificate_policies)) o) ≤ within_controls) is policies_part in
      omega (arith, part, as_long 161 48 (certificate_policies.content set))

module _ (info : TrustAnchorInfo Rfc5280) where
  pub_key_within : length (spelling subject_public_key_info info.pub_key) ≤ length (spelling (trust_anchor_info rfc5280_serial_number) info)
  unfolding trust_anchor_info_fields fields_octets
  pub_key_within = inside 48 _ _ _ refl (omega (arith, length-append {A = ℕ}))

  path_part : length (optional_octets (spelling (cert_path_controls rfc5280_serial_number)) info.cert_path) ≤ length (spelling (trust_anchor_info rfc5280_serial_number) info)
  unfolding trust_anchor_info_fields fields_octets
  path_part = inside 48 _ _ _ refl (omega (arith, length-append {A = ℕ}))

  path_within : (controls : CertPathControls Rfc5280) → info.cert_path ≡ Some controls → length (spelling (cert_path_controls rfc5280_serial_number) controls) ≤ length (spelling (trust_anchor_info rfc5280_serial_number) info)
  path_within controls is = subst (λ o. length (optional_octets (spelling (cert_path_controls rfc5280_serial_number)) o) ≤ length (spelling (trust_anchor_info rfc5280_serial_number) info)) is path_part

-- ---- what is trusted

module _ {T : Type 0} (form : Form T) (oid : List ℕ) where
  own_within : (es : List Extension) (value : T) → IsValueOf form oid es (Some value) → length (spelling form value) ≤ limit
  own_within es value (e, one, spells) = subst (λ b. length b ≤ limit) spells.1 spells.2

  -- one of the controls, or else one of the certificate in them
  either_within : (first own : Option T) (value : T) → ((v : T) → first ≡ Some v → length (spelling form v) ≤ limit) → ((v : T) → own ≡ Some v → length (spelling form v) ≤ limit)
      → or_else first own ≡ Some value → length (spelling form value) ≤ limit
  either_within None own value fits own_fits some = own_fits value some
  either_within (Some v) own value fits own_fits some = fits value some

of_part : (t : TbsCertificateInner Rfc5280) (trust : Trust) → IsTrustOf t trust → length (spelling rfc5280_tbs_certificate t) ≤ limit → IsOverlong trust → ⊥
of_part t trust is fits (inl long) =
    let same : trust.anchor.name ≡ t.subject = ap (λ a. a.name) is.anchor in
    omega (arith, fits, subject_within t, subst (λ n. limit < length (spelling name n)) same long)
of_part t trust is fits (inr (inl long)) =
    let same : trust.anchor.key ≡ t.subject_public_key_info = ap (λ a. a.key) is.anchor in
    omega (arith, fits, key_within t, subst (λ k. limit < length (spelling subject_public_key_info k)) same long)
of_part t trust is fits (inr (inr (inl (asks, some, long)))) =
    omega (arith, long, own_within name_constraints (id_ce 30) (members t.extensions) asks (subst (λ o. IsValueOf name_constraints (id_ce 30) (members t.extensions) o) some is.limits.constraints))
of_part t trust is fits (inr (inr (inr (set, some, long)))) =
    omega (arith, long, own_within certificate_policies (id_ce 32) (members t.extensions) set (subst (λ o. IsValueOf certificate_policies (id_ce 32) (members t.extensions) o) some is.limits.policies))

own_constraints : (own : Option Certificate) (limits : Limits) (asks : NameConstraints) → AreOwnLimits own limits → limits.constraints ≡ Some asks → length (spelling name_constraints asks) ≤ limit
own_constraints None limits asks are some = absurd (let e : None ≡ Some asks = sym (ap (λ (l : Limits). l.constraints) are) ∙ some in cc)
own_constraints (Some c) limits asks are some =
    own_within name_constraints (id_ce 30) (extensions_of c) asks (subst (λ o. IsValueOf name_constraints (id_ce 30) (extensions_of c) o) some are.constraints)

own_policies : (own : Option Certificate) (limits : Limits) (set : CertificatePolicies) → AreOwnLimits own limits → limits.policies ≡ Some set → length (spelling certificate_policies set) ≤ limit
own_policies None limits set are some = absurd (let e : None ≡ Some set = sym (ap (λ (l : Limits). l.policies) are) ∙ some in cc)
own_policies (Some c) limits set are some =
    own_within certificate_policies (id_ce 32) (extensions_of c) set (subst (λ o. IsValueOf certificate_policies (id_ce 32) (extensions_of c) o) some are.policies)

of_description : (info : TrustAnchorInfo Rfc5280) (trust : Trust) → IsTrustOfInfo info trust → length (spelling (trust_anchor_info rfc5280_serial_number) info) ≤ limit → IsOverlong trust → ⊥
of_description info trust is fits (inl long) =
    let same : trust.anchor.name ≡ is.controls.ta_name = ap (λ a. a.name) is.anchor in
    omega (arith, fits, path_within info is.controls is.has_controls, name_within is.controls, subst (λ n. limit < length (spelling name n)) same long)
of_description info trust is fits (inr (inl long)) =
    let same : trust.anchor.key ≡ info.pub_key = ap (λ a. a.key) is.anchor in
    omega (arith, fits, pub_key_within info, subst (λ k. limit < length (spelling subject_public_key_info k)) same long)
of_description info trust is fits (inr (inr (inl (asks, some, long)))) =
    let within = either_within name_constraints (id_ce 30) is.controls.name_constr is.own.constraints asks
    (λ a has. omega (arith, fits, path_within info is.controls is.has_controls, constraints_within is.controls a has))
    (λ a has. own_constraints is.controls.certificate is.own a is.are_own has) (sym (ap (λ (l : Limits). l.constraints) is.limits) ∙ some) in
    omega (arith, long, within)
of_description info trust is fits (inr (inr (inr (set, some, long)))) =
    let within = either_within certificate_policies (id_ce 32) is.controls.policy_set is.own.policies set
    (λ s has. omega (arith, fits, path_within info is.controls is.has_controls, policies_within is.controls s has))
    (λ s has. own_policies is.controls.certificate is.own s is.are_own has) (sym (ap (λ (l : Limits). l.policies) is.limits) ∙ some) in
    omega (arith, long, within)

within : (anchor : TrustAnchorChoice Rfc5280) (trust : Trust) → IsTrustOfAnchor anchor trust → length (spelling rfc5280_trust_anchor_choice anchor) ≤ limit → IsOverlong trust → ⊥
unfolding choice_content choice_tag
within (Whole c) trust is fits long = of_part c.tbs_certificate trust is (omega (arith, fits, part_within c)) long
within (TbsCertificate t) trust is fits long = of_part t trust is (omega (arith, fits, content_within 161 (spelling rfc5280_tbs_certificate t))) long
within (TaInfo info) trust is fits long = of_description info trust is (omega (arith, fits, content_within 162 (spelling (trust_anchor_info rfc5280_serial_number) info))) long

-- what is answered of the bytes of an anchor
pub answered : (anchor : TrustAnchorChoice Rfc5280) (bytes : List ℕ) (answer : Result TrustedBuf Error) → Spells rfc5280_trust_anchor_choice anchor bytes
    → MatchResult answer (λ trusted. (trust : Trust) × IsTrustOfAnchor anchor trust × HoldsTrust trusted trust) (λ e. RefusesTrust (IsTrustOfAnchor anchor) (RefusesAnchor anchor) e.kind)
    → MatchResult answer (λ trusted. (a : TrustAnchorChoice Rfc5280) × (trust : Trust) × Spells rfc5280_trust_anchor_choice a bytes × IsTrustOfAnchor a trust × HoldsTrust trusted trust)
    (λ e. (e.kind ≡ Memory) ⊎ (IsNoAnchor bytes e.kind ⊎ IsUntrusted bytes e.kind))
answered anchor bytes (Ok trusted) spells (trust, is, holds) = (anchor, trust, spells, is, holds)
answered anchor bytes (Err e) spells (inl memory) = inl memory
answered anchor bytes (Err e) spells (inr (inl (none, why))) = inr (inr (anchor, spells, none, why))
answered anchor bytes (Err e) spells (inr (inr (long, (trust, is, part)))) = absurd (within anchor trust is (subst (λ b. length b ≤ limit) spells.1 spells.2) part)
