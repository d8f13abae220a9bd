-- What can be read of what a path is validated by.
use Rattle.std.proofs.Common.{◌≡◌, ◌↔◌, ◌+◌, ◌<◌, ◌≤◌, Bor, true, false, Option, Some, None, List, [], ◌∷◌, ℕ, length, take, get_or, refl, sym, subst}
use Rattle.std.proofs.lemmas.Bool.{true≢false}
use Rattle.std.proofs.lemmas.List.{take_all}
use Rattle.std.proofs.lemmas.List.Elements.{All-cons, All-head, All-map, All-more, All-nil, All-tail}
use Rattle.std.specs.Bool.{IsTrue}
use Rattle.std.specs.List.{All}
use Rattle.x509_base.specs.SubjectPublicKeyInfo.{subject_public_key_info}
use Rattle.x509_base.specs.declared.subject_public_key_info.SubjectPublicKeyInfo.{SubjectPublicKeyInfo}
use Rattle.x509_der.specs.Form.{Form, Spells}
use Rattle.x509_der.specs.ObjectIdentifier.{is_object_identifier}
use Rattle.x509_ext.specs.declared.pkix.certificate_policies.CertificatePolicies.{CertificatePolicies}
use Rattle.x509_ext.specs.declared.pkix.name_constraints.NameConstraints.{NameConstraints}
use Rattle.x509_name.specs.Names.{name}
use Rattle.x509_name.specs.declared.attr.type_and_value.AttributeTypeAndValue.{AttributeTypeAndValue}
use Rattle.x509_path.specs.Lent.{LendsAnchor}
use Rattle.x509_path.specs.declared.anchor.Anchor.{Anchor}
use Rattle.x509_path.specs.declared.anchor_ref.AnchorRef.{AnchorRef}
use Rattle.x509_path_steps.specs.Inputs.{AreOids, Inputs, LendsConstraints, LendsInputs, LendsPolicies, LendsTrust, SpellsOption, Trust, asked_of, purposes_of, uses_of, user_set}
use Rattle.x509_path_steps.specs.declared.settings.PathSettings.{PathSettings}
use Rattle.x509_path_steps.specs.declared.trusted.Trusted.{Trusted}
use Rattle.x509_policy.specs.Views.{octets_of}

abbrev pub HasTrust : Trusted → Type 0
HasTrust trusted = (trust : Trust) × LendsTrust trusted trust

abbrev pub HasConstraints : Option (Bor (List ℕ)) → Type 0
HasConstraints lent = (value : Option NameConstraints) × LendsConstraints lent value

abbrev pub HasPolicies : Option (Bor (List ℕ)) → Type 0
HasPolicies lent = (value : Option CertificatePolicies) × LendsPolicies lent value

abbrev pub HasAnchor : AnchorRef → Type 0
HasAnchor lent = (above : Anchor) × LendsAnchor lent above

-- octets that are there
pub spelled : {X : Type 0} (form : Form X) (octets : Bor (List ℕ)) → ((value : X) × Spells form value octets.now) → (value : Option X) × SpellsOption (λ lent. lent.now) form (Some octets) value
spelled form octets (value, spells) = (Some value, spells)

pub spelled_back : {X : Type 0} (form : Form X) (octets : Bor (List ℕ)) → ((value : Option X) × SpellsOption (λ lent. lent.now) form (Some octets) value) → (value : X) × Spells form value octets.now
spelled_back form octets (None, spells) = absurd spells
spelled_back form octets (Some value, spells) = (value, spells)

-- a name and a key
pub anchor_of : (lent : AnchorRef) → ((n : List (List AttributeTypeAndValue)) × Spells name n lent.name.now) → ((k : SubjectPublicKeyInfo) × Spells subject_public_key_info k lent.key.now) → HasAnchor lent
anchor_of lent (n, is_name) (k, is_key) = (record { name = n; key = k }, (is_name, is_key))

pub its_name : (lent : AnchorRef) → HasAnchor lent → (n : List (List AttributeTypeAndValue)) × Spells name n lent.name.now
its_name lent (above, lends) = (above.name, lends.0)

pub its_key : (lent : AnchorRef) → HasAnchor lent → (k : SubjectPublicKeyInfo) × Spells subject_public_key_info k lent.key.now
its_key lent (above, lends) = (above.key, lends.1)

-- policies that are asked one after the other
module _ (policies : List (Bor (List ℕ))) (i : ℕ) where
  abbrev pub IsOid : Bor (List ℕ) → Type 0
  IsOid policy = is_object_identifier policy.now ≡ true

  pub all_oids : length policies ≤ i → All IsOid (take i policies) → IsTrue true ↔ AreOids (octets_of policies)
  all_oids past all = ((λ is. All-map (λ octets. is_object_identifier octets ≡ true) (λ policy. policy.now) policies (subst (All IsOid) (take_all i policies past) all)), (λ is. refl))

  module _ (d : Bor (List ℕ)) (less : i < length policies) where
    lent_all : (ps : List (Bor (List ℕ))) → AreOids (octets_of ps) → All IsOid ps
    lent_all [] every = All-nil IsOid
    lent_all (p ∷ ps) every = All-cons IsOid p ps (All-head (λ octets. is_object_identifier octets ≡ true) p.now (octets_of ps) every) (lent_all ps (All-tail (λ octets. is_object_identifier octets ≡ true) p.now (octets_of ps) every))

    pub no_oid : (IsOid (get_or policies i d) → ⊥) → IsTrue false ↔ AreOids (octets_of policies)
    no_oid fails = ((λ never. absurd (true≢false (sym never))), (λ all. absurd (fails (lent_all policies all i d less))))

    pub more_oids : IsOid (get_or policies i d) → All IsOid (take i policies) → All IsOid (take (i + 1) policies)
    more_oids holds all = All-more IsOid policies i d less all holds

module _ (trusted : Trusted) where
  pub trust_of : HasAnchor trusted.anchor → HasConstraints trusted.name_constraints → HasPolicies trusted.policies → HasTrust trusted
  trust_of (above, is_above) (constraints, are) (policies, have) = (
    record { anchor = above; constraints = constraints; max_path_length = trusted.max_path_length; policies = policies; flags = trusted.policy_flags },
    record { anchor = is_above; constraints = are; max_path_length = refl; policies = have; flags = refl },
  )

  pub its_anchor : HasTrust trusted → HasAnchor trusted.anchor
  its_anchor (trust, lends) = (trust.anchor, lends.anchor)

  pub its_constraints : HasTrust trusted → HasConstraints trusted.name_constraints
  its_constraints (trust, lends) = (trust.constraints, lends.constraints)

  pub its_policies : HasTrust trusted → HasPolicies trusted.policies
  its_policies (trust, lends) = (trust.policies, lends.policies)

  module _ (settings : PathSettings) where
    abbrev pub HasInputs : Type 0
    HasInputs = (inputs : Inputs) × LendsInputs trusted settings inputs

    pub inputs_of : HasTrust trusted → HasConstraints settings.name_constraints → AreOids (user_set settings.user_initial_policy_set) → HasInputs
    inputs_of (trust, lends) (constraints, are) oids = (
      record { trust = trust; moment = settings.moment; constraints = constraints; asked = asked_of settings; purposes = purposes_of settings; uses = uses_of settings },
      record { trust = lends; moment = refl; constraints = are; asked = refl; purposes = refl; uses = refl; oids = oids },
    )

    pub its_trust : HasInputs → HasTrust trusted
    its_trust (inputs, lends) = (inputs.trust, lends.trust)

    pub asked_constraints : HasInputs → HasConstraints settings.name_constraints
    asked_constraints (inputs, lends) = (inputs.constraints, lends.constraints)

    pub asked_oids : HasInputs → AreOids (user_set settings.user_initial_policy_set)
    asked_oids (inputs, lends) = lends.oids
