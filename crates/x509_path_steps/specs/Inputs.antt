-- What a path is validated by (RFC 5280 6.1.1, RFC 5937 2).
use Rattle.std.specs.Borrow.{Bor}
use Rattle.std.specs.List.{All}
use Rattle.std.specs.Option.{option_map}
use Rattle.std.specs.Prelude.{◌≡◌, ℕ, true, List, [], ◌∷◌, Option, Some, None}
use Rattle.x509_base.specs.CivilTime.{CivilTime}
use Rattle.x509_der.specs.Form.{Form, Spells}
use Rattle.x509_der.specs.ObjectIdentifier.{is_object_identifier}
use Rattle.x509_ext.specs.CertificatePolicies.{certificate_policies}
use Rattle.x509_ext.specs.NameConstraints.{name_constraints}
use Rattle.x509_ext.specs.declared.pkix.certificate_policies.CertificatePolicies.{CertificatePolicies}
use Rattle.x509_ext.specs.declared.pkix.name_constraints.NameConstraints.{NameConstraints}
use Rattle.x509_path.specs.Lent.{LendsAnchor}
use Rattle.x509_path.specs.declared.anchor.Anchor.{Anchor}
use Rattle.x509_path_steps.specs.declared.asked.Uses.{Uses}
use Rattle.x509_path_steps.specs.declared.settings.PathSettings.{PathSettings}
use Rattle.x509_path_steps.specs.declared.trusted.Trusted.{Trusted}
use Rattle.x509_policy.specs.Values.{Policy, Settings, any_policy}
use Rattle.x509_policy.specs.Views.{octets_of}
use Rattle.x509_policy.specs.declared.anchor.AnchorFlags.{AnchorFlags}

-- what is trusted: a name and a key, the names that certificates below may have, how many of them may follow, for which policies, and flags about these
pub record Trust : Type 0 where
  pub anchor : Anchor
  pub constraints : Option NameConstraints
  pub max_path_length : Option ℕ
  pub policies : Option CertificatePolicies
  pub flags : AnchorFlags

-- the letters are those of RFC 5280 6.1.1
pub record Inputs : Type 0 where
  pub trust : Trust  -- (d)
  pub moment : CivilTime  -- (b)
  pub constraints : Option NameConstraints  -- (h), (i)
  pub asked : Settings  -- (c), (e), (f), (g)
  pub purposes : Option (List (List ℕ))  -- the key purposes of which one is asked for (4.2.1.12)
  pub uses : Uses

-- ---- what is lent

-- the octets that are seen there are those of the value, and absent where it is
abbrev pub SpellsOption : {L X : Type 0} → (L → List ℕ) → Form X → Option L → Option X → Type 0
SpellsOption see form None value = value ≡ None
SpellsOption see form (Some held) None = ⊥
SpellsOption see form (Some held) (Some value) = Spells form value (see held)

abbrev pub LendsConstraints : Option (Bor (List ℕ)) → Option NameConstraints → Type 0
LendsConstraints = SpellsOption (λ lent. lent.now) name_constraints

abbrev pub LendsPolicies : Option (Bor (List ℕ)) → Option CertificatePolicies → Type 0
LendsPolicies = SpellsOption (λ lent. lent.now) certificate_policies

pub record LendsTrust (trusted : Trusted) (trust : Trust) : Type 0 where
  pub anchor : LendsAnchor trusted.anchor trust.anchor
  pub constraints : LendsConstraints trusted.name_constraints trust.constraints
  pub max_path_length : trust.max_path_length ≡ trusted.max_path_length
  pub policies : LendsPolicies trusted.policies trust.policies
  pub flags : trust.flags ≡ trusted.policy_flags

-- any-policy where the caller names none
abbrev pub user_set : Option (Bor (List (Bor (List ℕ)))) → List Policy
user_set None = any_policy ∷ []
user_set (Some policies) = octets_of policies.now

-- each is the content octets of an OID
abbrev pub AreOids : List Policy → Type 0
AreOids policies = All (λ policy. is_object_identifier policy ≡ true) policies

abbrev pub asked_of : PathSettings → Settings
asked_of settings = record {
  user_initial_policy_set = user_set settings.user_initial_policy_set;
  initial_policy_mapping_inhibit = settings.initial_policy_mapping_inhibit;
  initial_explicit_policy = settings.initial_explicit_policy;
  initial_any_policy_inhibit = settings.initial_any_policy_inhibit;
}

abbrev pub purposes_of : PathSettings → Option (List (List ℕ))
purposes_of settings = option_map (λ purposes. octets_of purposes.now) settings.purposes

abbrev pub uses_of : PathSettings → Uses
uses_of settings = record {
  is_chained = settings.is_chained;
  key_usage = settings.key_usage;
  allows_version_1 = settings.allows_version_1;
  constrain_common_names = settings.constrain_common_names;
}

pub record LendsInputs (trusted : Trusted) (settings : PathSettings) (inputs : Inputs) : Type 0 where
  pub trust : LendsTrust trusted inputs.trust
  pub moment : inputs.moment ≡ settings.moment
  pub constraints : LendsConstraints settings.name_constraints inputs.constraints
  pub asked : inputs.asked ≡ asked_of settings
  pub purposes : inputs.purposes ≡ purposes_of settings
  pub uses : inputs.uses ≡ uses_of settings
  pub oids : AreOids (user_set settings.user_initial_policy_set)

-- nothing is lent: the name, the key, constraints or policies of what is trusted, or constraints or policies of the caller, can't be read
abbrev pub AreUnreadable : Trusted → PathSettings → Type 0
AreUnreadable trusted settings = (inputs : Inputs) → LendsInputs trusted settings inputs → ⊥
