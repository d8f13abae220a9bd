-- Tools of the proofs: where a certificate of a path stands, what is known there, and what is answered of it.
use Rattle.std.specs.Bool.{IsTrue}
use Rattle.std.specs.List.{All}
use Rattle.std.specs.Option.{option_map}
use Rattle.std.specs.Prelude.{◌≡◌, ◌↔◌, ℕ, Bool, false, List, [], ◌∷◌, ◌++◌, Option, Result, Ok, Err, MatchResult}
use Rattle.x509_base.specs.CivilTime.{CivilTime}
use Rattle.x509_cert.specs.Certificate.{rfc5280_certificate}
use Rattle.x509_check.specs.declared.lent.extension.ExtensionRef.{ExtensionRef}
use Rattle.x509_der.specs.Form.{Spells}
use Rattle.x509_ext.specs.declared.pkix.basic_constraints.BasicConstraints.{BasicConstraints}
use Rattle.x509_ext.specs.declared.pkix.name_constraints.NameConstraints.{NameConstraints}
use Rattle.x509_match.specs.Matching.{NamesMatch}
use Rattle.x509_path.specs.Certificates.{Accepting, Certificate, IsSelfIssued, extensions_of}
use Rattle.x509_path.specs.Lent.{Lends, LendsAnchor, lent_extensions}
use Rattle.x509_path.specs.Path.{IsFirst}
use Rattle.x509_path.specs.PathLength as lengths
use Rattle.x509_path.specs.declared.anchor.Anchor.{Anchor}
use Rattle.x509_path_steps.specs.Inputs.{Inputs}
use Rattle.x509_path_steps.specs.Keys.{key_behind}
use Rattle.x509_path_steps.specs.Policies.{AreSettings}
use Rattle.x509_path_steps.specs.Says.{Say, Says}
use Rattle.x509_path_steps.specs.Steps.{AreConstraintsOf, AreLeft, Collects, Holds, HoldsKey, asked_before, left_at, said_by}
use Rattle.x509_path_steps.specs.Validation.{Breaks, IsFault, Standing, own_reasons, reasons}
use Rattle.x509_path_steps.specs.declared.above.Above.{Above}
use Rattle.x509_path_steps.specs.declared.asked.Asked.{Asked}
use Rattle.x509_path_steps.specs.declared.validation_fault.ValidationFault.{ValidationFault}
use Rattle.x509_path_steps.specs.declared.validation_fault.ValidationFault.TheVariants.{Memory, Empty, Initial, At}
use Rattle.x509_path_steps.specs.declared.validation_fault.ValidationReason.{ValidationReason}
use Rattle.x509_path_steps.specs.declared.validation_fault.ValidationReason.TheVariants.{Decode, RepeatedPolicy, Policy, PolicyMapping}
use Rattle.x509_policy.specs.Follows.{Follows, IsOutcome}
use Rattle.x509_policy.specs.Path.{Valid}
use Rattle.x509_policy.specs.Values as policies
use Rattle.x509_policy.specs.Views.{octets_of}
use Rattle.x509_policy.specs.declared.state.PolicyState.{PolicyState}
use Rattle.x509_validation.specs.declared.validator.Limits.{Limits}

-- where a certificate stands
abbrev pub standing : Anchor → List Certificate → Bool → ℕ → Standing
standing above before is_last n = record { above = above; before = before; is_last = is_last; n = n }

-- what is known there: at that moment, under that name and key, with that many to follow, where those sets apply
pub record Stands (inputs : Inputs) (above : Anchor) (before : List Certificate) (moment : CivilTime) (lent : Above) (max_path_length : Option ℕ) (sets : Asked) : Type 0 where
  pub constraints : List NameConstraints
  pub at : inputs.moment ≡ moment
  pub lends : LendsAnchor lent.anchor above
  pub key : HoldsKey lent (key_behind inputs.trust.anchor.key before)
  pub leaves : lengths.Leaves NamesMatch inputs.trust.max_path_length before max_path_length
  pub applied : Holds sets.names constraints
  pub collects : Collects inputs before constraints
  pub uses : inputs.uses ≡ sets.uses
  pub purposes : AreLeft inputs.purposes (asked_before inputs.uses.is_chained before) (left_at sets)

-- they are what the certificate says of those below it
pub record IsLimitOf (c : Certificate) (basic : Option BasicConstraints) (names : Option NameConstraints) : Type 0 where
  pub of_basic : lengths.HasConstraints (extensions_of c) basic
  pub of_names : AreConstraintsOf c names

-- what is known of a certificate, of the last one less
pub record Knows (c : Certificate) (bytes : List ℕ) (lent : List ExtensionRef) (is_last is_own : Bool) (basic : Option BasicConstraints) (names : Option NameConstraints) : Type 0 where
  pub lends : Lends bytes c
  pub extensions : lent_extensions lent ≡ extensions_of c
  pub own : IsTrue is_own ↔ IsSelfIssued NamesMatch c
  pub limits : is_last ≡ false → IsLimitOf c basic names

-- what is answered of the certificate that stands there, at that place
abbrev pub Judges : Accepting → Inputs → Standing → List ℕ → ℕ → Result Certificate ValidationFault → Type 0
Judges accepts inputs standing bytes place (Ok c) = Spells rfc5280_certificate c bytes × ((r : ValidationReason) → Breaks accepts inputs standing bytes c r → ⊥)
Judges accepts inputs standing bytes place (Err Memory) = Unit {0}
Judges accepts inputs standing bytes place (Err Empty) = ⊥
Judges accepts inputs standing bytes place (Err Initial) = ⊥
Judges accepts inputs standing bytes place (Err (At p reason)) = (p ≡ place) × IsFirst (Decode ∷ reasons) (IsFault accepts inputs standing bytes) reason

-- the same, its policies apart
abbrev pub JudgesAlone : Accepting → Inputs → Standing → List ℕ → ℕ → Result Certificate ValidationFault → Type 0
JudgesAlone accepts inputs standing bytes place (Ok c) = Spells rfc5280_certificate c bytes × All (λ r. Breaks accepts inputs standing bytes c r → ⊥) own_reasons
JudgesAlone accepts inputs standing bytes place (Err e) = Judges accepts inputs standing bytes place (Err e)

-- the reason isn't one of policies
abbrev pub IsOwn : ValidationReason → Type 0
IsOwn RepeatedPolicy = ⊥
IsOwn Policy = ⊥
IsOwn PolicyMapping = ⊥
IsOwn _ = Unit {0}

-- the purposes that are left behind a certificate
abbrev pub left_behind : Limits → Option (List (List ℕ))
left_behind limits = option_map (λ left. octets_of left.items) limits.purposes

-- they are what is known behind the certificate, behind the others
pub record IsBehind (inputs : Inputs) (before : List Certificate) (c : Certificate) (limits : Limits) : Type 0 where
  pub own : IsTrue limits.policies.is_self_issued ↔ IsSelfIssued NamesMatch c
  pub of_limits : IsLimitOf c limits.basic_constraints limits.name_constraints
  pub of_purposes : AreLeft inputs.purposes (asked_before inputs.uses.is_chained (before ++ c ∷ [])) (left_behind limits)

-- what is answered of the certificate that stands there, its policies apart, and what it says of those below it
abbrev pub JudgesParts : Accepting → Inputs → Standing → List ℕ → ℕ → Certificate → Result Limits ValidationFault → Type 0
JudgesParts accepts inputs standing bytes place c answer =
    MatchResult answer (λ limits. (standing.is_last ≡ false → IsBehind inputs standing.before c limits)
    × (Says c (said_by limits.policies) × JudgesAlone accepts inputs standing bytes place (Ok c)))
    (λ e. JudgesAlone accepts inputs standing bytes place (Err e))

-- what is known of the policies behind these certificates, in a path of n
pub record Carries (inputs : Inputs) (n : ℕ) (before : List Certificate) (state : PolicyState) : Type 0 where
  pub settings : policies.Settings
  pub said : List policies.Certificate
  pub at_start : AreSettings inputs settings
  pub say : Say before said
  pub follows : Follows settings n said state

-- what is known behind the last one
pub record EndsUnder (inputs : Inputs) (certificates : List Certificate) (found : List policies.Policy) : Type 0 where
  pub settings : policies.Settings
  pub said : List policies.Certificate
  pub at_start : AreSettings inputs settings
  pub say : Say certificates said
  pub outcome : IsOutcome settings said (Valid found)
  pub once : policies.is_repeated found ≡ false
