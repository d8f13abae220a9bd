-- Why nothing is made of what is trusted.
use Rattle.std.proofs.Common.{◌≡◌, ◌≢◌, ◌⊎◌, ◌∙◌, inl, inr, ◌<◌, ◌≤◌, ℕ, List, [], ◌∷◌, length, Option, Some, None, Result, Ok, Err, ap, arith, refl, sym, subst}
use Rattle.std.proofs.lemmas.Bool.{cases_lt}
use Rattle.std.specs.List.{All}
use Rattle.std.specs.Prelude.{MatchResult}
use Rattle.x509_base.specs.Checked.{CheckRefuses}
use Rattle.x509_base.specs.Profiles.{rfc5280_serial_number}
use Rattle.x509_base.specs.declared.profile.Rfc5280.{Rfc5280}
use Rattle.x509_cert.specs.TrustAnchorChoice.{rfc5280_trust_anchor_choice}
use Rattle.x509_cert.specs.declared.anchor.cert_path_controls.CertPathControls.{CertPathControls}
use Rattle.x509_cert.specs.declared.anchor.trust_anchor_choice.TrustAnchorChoice.{TrustAnchorChoice}
use Rattle.x509_cert.specs.declared.anchor.trust_anchor_info.TrustAnchorInfo.{TrustAnchorInfo}
use Rattle.x509_cert.specs.declared.certificate.tbs_certificate.TbsCertificateInner.{TbsCertificateInner}
use Rattle.x509_der.specs.Element.{limit}
use Rattle.x509_der.specs.Form.{Form, Spells, whole_reading}
use Rattle.x509_der.specs.Outcome.{IsRefusal}
use Rattle.x509_der.specs.declared.error.Error.{Error}
use Rattle.x509_der.specs.declared.error.ErrorKind.{ErrorKind}
use Rattle.x509_der.specs.declared.error.ErrorKind.TheVariants.{Failed, Malformed, Memory, Overlength, SetDuplicate, Value}
use Rattle.x509_ext.specs.BasicConstraints.{basic_constraints}
use Rattle.x509_ext.specs.CertificatePolicies.{certificate_policies}
use Rattle.x509_ext.specs.Identifiers.{id_ce}
use Rattle.x509_ext.specs.InhibitAnyPolicy.{inhibit_any_policy}
use Rattle.x509_ext.specs.LookUp.{members}
use Rattle.x509_ext.specs.NameConstraints.{name_constraints}
use Rattle.x509_ext.specs.PolicyConstraints.{policy_constraints}
use Rattle.x509_ext.specs.SubjectKeyIdentifier.{subject_key_identifier}
use Rattle.x509_ext.specs.declared.extension.Extension.{Extension}
use Rattle.x509_ext.specs.declared.pkix.certificate_policies.CertificatePolicies.{CertificatePolicies}
use Rattle.x509_path.specs.Certificates.{Certificate, extensions_of}
use Rattle.x509_path_steps.specs.Inputs.{Trust}
use Rattle.x509_path_steps.specs.Trusts.{AreFlags, AreLimits, AreOwnLimits, HasItsCertificate, HasKeyId, HoldsTrust, IsNoAnchor, IsOverlong, IsRefused, IsTrustOf, IsTrustOfInfo, IsValueOf, MayBeLeft, RefusesFlags, RefusesInfo, RefusesItsCertificate, RefusesLimits, RefusesOption, RefusesOwnLimits, RefusesSigned, RefusesTrust, RefusesValue, limits_of}
use Rattle.x509_path_steps.specs.declared.limits.Limits.{Limits}
use Rattle.x509_path_steps.specs.declared.trusted_buf.TrustedBuf.{TrustedBuf}
use Rattle.x509_policy.specs.declared.anchor.AnchorFlags.{AnchorFlags}

-- ---- what gives no value

pub no_value : {X : Type 0} (form : Form X) (oid : List ℕ) (es : List Extension) (e : ErrorKind) → RefusesValue form oid es e → (found : Option X) → IsValueOf form oid es found → ⊥
no_value form oid es e (inl (many, is)) None none = omega (arith, many, ap length none)
no_value form oid es e (inl (many, is)) (Some value) (x, one, spells) = omega (arith, many, ap length one)
no_value form oid es e (inr (x, one, refused)) None none = let k : x ∷ [] ≡ [] = sym one ∙ none in cc
no_value form oid es e (inr (x, one, inl (long, is))) (Some value) (y, other, spells) =
    let same : x ∷ [] ≡ y ∷ [] = sym one ∙ other in
    let fits : length x.extn_value ≤ limit = let k : y ≡ x = cc in subst (λ z. length z.extn_value ≤ limit) k spells.2 in
    omega (arith, long, fits)
no_value form oid es e (inr (x, one, inr (fits, kind, none, which))) (Some value) (y, other, spells) =
    let same : x ∷ [] ≡ y ∷ [] = sym one ∙ other in
    let k : y ≡ x = cc in
    none value (subst (λ z. Spells form value z.extn_value) k spells)

no_flags_said : (es : List Extension) (e : ErrorKind) → RefusesFlags es e → (flags : AnchorFlags) → AreFlags es flags → ⊥
no_flags_said es e (inl refused) flags said = no_value policy_constraints (id_ce 36) es e refused said.constraints said.are_constraints
no_flags_said es e (inr (given, refused)) flags said = no_value inhibit_any_policy (id_ce 54) es e refused said.inhibit said.is_inhibit

pub no_limits : (es : List Extension) (e : ErrorKind) → RefusesLimits es e → (limits : Limits) → AreLimits es limits → ⊥
no_limits es e (inl refused) limits are = no_value name_constraints (id_ce 30) es e refused limits.constraints are.constraints
no_limits es e (inr (one, inl refused)) limits are = no_value basic_constraints (id_ce 19) es e refused are.max_path_length.0 are.max_path_length.1
no_limits es e (inr (one, inr (two, inl refused))) limits are = no_value certificate_policies (id_ce 32) es e refused limits.policies are.policies
no_limits es e (inr (one, inr (two, inr (three, refused)))) limits are = no_flags_said es e refused limits.flags are.flags

pub no_signed : (signed : TbsCertificateInner Rfc5280) (e : ErrorKind) → RefusesSigned signed e → (trust : Trust) → IsTrustOf signed trust → ⊥
no_signed signed e (inl (failed, empty)) trust is = is.named empty
no_signed signed e (inr (named, refused)) trust is = no_limits (members signed.extensions) e refused (limits_of trust) is.limits

-- what refuses the extensions of a certificate with a name refuses it
pub signed_refused : (signed : TbsCertificateInner Rfc5280) (e : ErrorKind) → signed.subject ≢ [] → (e ≡ Memory) ⊎ RefusesLimits (members signed.extensions) e → (e ≡ Memory) ⊎ RefusesSigned signed e
signed_refused signed e named (inl memory) = inl memory
signed_refused signed e named (inr refused) = inr (inr (named, refused))

pub untrusted_signed : (signed : TbsCertificateInner Rfc5280) (e : ErrorKind) → RefusesSigned signed e → ((trust : Trust) → IsTrustOf signed trust → ⊥) × RefusesSigned signed e
untrusted_signed signed e refused = (no_signed signed e refused, refused)

-- where the extensions are these
pub untrusted_limits : (signed : TbsCertificateInner Rfc5280) (es : List Extension) (e : ErrorKind) → es ≡ members signed.extensions → signed.subject ≢ [] → RefusesLimits es e
    → ((trust : Trust) → IsTrustOf signed trust → ⊥) × RefusesSigned signed e
untrusted_limits signed es e same named refused = untrusted_signed signed e (inr (named, subst (λ xs. RefusesLimits xs e) same refused))

no_key_id : (es : List Extension) (key_id : List ℕ) (e : ErrorKind) → RefusesValue subject_key_identifier (id_ce 14) es e → HasKeyId es key_id → ⊥
no_key_id es key_id e refused (inl none) = no_value subject_key_identifier (id_ce 14) es e refused None none
no_key_id es key_id e refused (inr some) = no_value subject_key_identifier (id_ce 14) es e refused (Some (record { 0 = key_id })) some

-- ---- what is answered

module _ (is_trust : Trust → Type 0) (refuses : ErrorKind → Type 0) where
  pub none_trusted : (e : ErrorKind) → (refuses e → (trust : Trust) → is_trust trust → ⊥) → (e ≡ Memory) ⊎ refuses e → RefusesTrust is_trust refuses e
  none_trusted e none (inl memory) = inl memory
  none_trusted e none (inr refused) = inr (inl (none refused, refused))

  pub answered : (trust : Trust) (answer : Result TrustedBuf Error) → is_trust trust
      → MatchResult answer (λ trusted. HoldsTrust trusted trust) (λ e. (e.kind ≡ Memory) ⊎ ((e.kind ≡ Overlength) × IsOverlong trust))
      → MatchResult answer (λ trusted. (t : Trust) × is_trust t × HoldsTrust trusted t) (λ e. RefusesTrust is_trust refuses e.kind)
  answered trust (Ok trusted) is h = (trust, is, h)
  answered trust (Err e) is (inl memory) = inl memory
  answered trust (Err e) is (inr (long, part)) = inr (inr (long, (trust, is, part)))

-- the encoding of the policies is refused
pub long_policies : (trust : Trust) (policies : Option CertificatePolicies) (e : ErrorKind) → trust.policies ≡ policies → RefusesOption certificate_policies policies e → (e ≡ Memory) ⊎ ((e ≡ Overlength) × IsOverlong trust)
long_policies trust None e is refused = absurd refused
long_policies trust (Some set) e is (inl memory) = inl memory
long_policies trust (Some set) e is (inr (over, long)) = inr (over, inr (inr (inr (set, is, long))))

-- ---- descriptions

no_certificate : (info : TrustAnchorInfo Rfc5280) (controls : CertPathControls Rfc5280) (own : Option Certificate) (e : ErrorKind) → RefusesItsCertificate info controls own e → HasItsCertificate info controls own → (limits : Limits) → AreOwnLimits own limits → ⊥
no_certificate info controls None e refused has limits are = refused
no_certificate info controls (Some c) e (inl (failed, other)) has limits are = other has
no_certificate info controls (Some c) e (inr (inl refused)) has limits are = no_key_id (extensions_of c) info.key_id e refused has.key_id
no_certificate info controls (Some c) e (inr (inr refused)) has limits are = no_limits (extensions_of c) e refused limits are

pub its_limits : (info : TrustAnchorInfo Rfc5280) (controls : CertPathControls Rfc5280) (own : Option Certificate) (e : ErrorKind) → (e ≡ Memory) ⊎ RefusesOwnLimits own e → (e ≡ Memory) ⊎ RefusesItsCertificate info controls own e
its_limits info controls own e (inl memory) = inl memory
its_limits info controls None e (inr refused) = inr refused
its_limits info controls (Some c) e (inr refused) = inr (inr (inr refused))

pub other_certificate : (info : TrustAnchorInfo Rfc5280) (controls : CertPathControls Rfc5280) (own : Option Certificate) → (HasItsCertificate info controls own → ⊥) → RefusesItsCertificate info controls own Failed
other_certificate info controls None other = other tt
other_certificate info controls (Some c) other = inl (refl, other)

-- a description without controls
pub uncontrolled : (info : TrustAnchorInfo Rfc5280) → info.cert_path ≡ None → RefusesTrust (IsTrustOfInfo info) (RefusesInfo info) Failed
uncontrolled info none = inr (inl (
  (λ trust t. let e : Some t.controls ≡ None = sym t.has_controls ∙ none in cc),
  inl (refl, (λ controls has. let e : Some controls ≡ None = sym has ∙ none in cc)),
))

-- of a description with these controls
module _ (info : TrustAnchorInfo Rfc5280) (controls : CertPathControls Rfc5280) (has : info.cert_path ≡ Some controls) where
  same : (trust : Trust) (t : IsTrustOfInfo info trust) → t.controls ≡ controls
  same trust t = let e : Some t.controls ≡ Some controls = sym t.has_controls ∙ has in cc

  pub certified : (trust : Trust) → IsTrustOfInfo info trust → HasItsCertificate info controls controls.certificate
  certified trust t = subst (λ c. HasItsCertificate info c c.certificate) (same trust t) t.certificate

  -- the name is empty, or an extension beside the controls may not be left
  pub unfollowed : (controls.ta_name ≡ []) ⊎ (All (λ x. MayBeLeft x) (members info.extensions) → ⊥) → RefusesTrust (IsTrustOfInfo info) (RefusesInfo info) Failed
  unfollowed why = inr (inl (
    (λ trust t. elim why [ inl empty ↦ t.named (ap (λ (c : CertPathControls Rfc5280). c.ta_name) (same trust t) ∙ empty) | inr some ↦ some t.others ]),
    inl (refl, (λ others is. let k : Some controls ≡ Some others = sym has ∙ is in let e : others ≡ controls = cc in subst (λ (c : CertPathControls Rfc5280). (c.ta_name ≡ []) ⊎ (All (λ x. MayBeLeft x) (members info.extensions) → ⊥)) (sym e) why)),
  ))

  pub untrusted : (e : ErrorKind) → RefusesItsCertificate info controls controls.certificate e → (trust : Trust) → IsTrustOfInfo info trust → ⊥
  untrusted e refused trust t =
      no_certificate info controls controls.certificate e refused (certified trust t) t.own (subst (λ c. AreOwnLimits c.certificate t.own) (same trust t) t.are_own)

  -- its certificate is refused
  pub described : (e : ErrorKind) → (e ≡ Memory) ⊎ RefusesItsCertificate info controls controls.certificate e → RefusesTrust (IsTrustOfInfo info) (RefusesInfo info) e
  described e (inl memory) = inl memory
  described e (inr refused) = inr (inl (untrusted e refused, inr (controls, has, refused)))

-- ---- bytes

is_memory : (e : ErrorKind) → (e ≡ Memory) ⊎ (e ≡ Memory → ⊥)
is_memory Memory = inl refl
is_memory _ = inr (λ is. cc)

-- what decoding says of bytes that it refuses
module _ (bytes : List ℕ) (e : ErrorKind) (over : limit < length bytes → e ≡ Overlength)
    (refused : length bytes ≤ limit → ((e ≡ Memory) × Unit {0}) ⊎ ((e ≡ Malformed) ⊎ CheckRefuses rfc5280_serial_number e))
    (only : length bytes ≤ limit → (anchor : TrustAnchorChoice Rfc5280) → Spells rfc5280_trust_anchor_choice anchor bytes → (e ≡ Memory) × Unit {0})
    (which : length bytes ≤ limit → IsRefusal e (whole_reading rfc5280_trust_anchor_choice.reading bytes)) where
  none_spelled : length bytes ≤ limit → (e ≡ Malformed) ⊎ CheckRefuses rfc5280_serial_number e → (e ≡ Memory) ⊎ IsNoAnchor bytes e
  none_spelled fits kind = elim (is_memory e) [
    | inl memory ↦ inl memory
    | inr other ↦ inr (inr (fits, kind, (λ anchor spells. other (only fits anchor spells).0), which fits))
  ]

  pub no_anchor : (e ≡ Memory) ⊎ IsNoAnchor bytes e
  no_anchor = elim (cases_lt limit (length bytes)) [
    | inl long ↦ inr (inl (long, over long))
    | inr fits ↦ elim (refused fits) [ inl memory ↦ inl memory.0 | inr kind ↦ none_spelled fits kind ]
  ]

-- what a check says of octets that it refuses
pub check_refused : {X : Type 0} (form : Form X) (refuses : ErrorKind → Type 0) (octets : List ℕ) (e : ErrorKind) → ((k : ErrorKind) → refuses k → ⊥) → (limit < length octets → e ≡ Overlength)
    → (length octets ≤ limit → (e ≡ Malformed) ⊎ refuses e) → ((value : X) → Spells form value octets → ⊥) → (length octets ≤ limit → whole_reading form.reading octets ≡ Err e)
    → IsRefused form (λ k. ⊥) octets e
check_refused form refuses octets e never over refused none which = elim (cases_lt limit (length octets)) [
  | inl long ↦ inl (long, over long)
  | inr fits ↦ inr (fits, (elim (refused fits) [ inl malformed ↦ inl malformed | inr other ↦ absurd (never e other) ]), none, is_refusal e (which fits))
] where
  is_refusal : (k : ErrorKind) → whole_reading form.reading octets ≡ Err k → IsRefusal k (whole_reading form.reading octets)
  is_refusal Memory is = tt
  is_refusal Overlength is = is
  is_refusal Malformed is = is
  is_refusal Failed is = is
  is_refusal SetDuplicate is = is
  is_refusal Value is = is
