-- Tools of the proofs: what is held of a path between its certificates, and what comes of the steps of its validation.
use Rattle.std.specs.List.{All}
use Rattle.std.specs.Option.{option_map}
use Rattle.std.specs.Prelude.{◌≡◌, ◌↔◌, ℕ, Bool, true, false, List, [], map, Option, Some, None, Contains, Result, Ok, Err}
use Rattle.x509_base.specs.SubjectPublicKeyInfo.{subject_public_key_info}
use Rattle.x509_base.specs.declared.subject_public_key_info.SubjectPublicKeyInfo.{SubjectPublicKeyInfo}
use Rattle.x509_constraints.specs.Applied.{AreApplied}
use Rattle.x509_constraints.specs.Constraints.{IsUsable}
use Rattle.x509_der.specs.Any.{any}
use Rattle.x509_der.specs.Form.{Spells}
use Rattle.x509_der.specs.declared.any.Any.{Any}
use Rattle.x509_ext.specs.declared.extension.Extension.{Extension}
use Rattle.x509_ext.specs.declared.pkix.name_constraints.NameConstraints.{NameConstraints}
use Rattle.x509_path.specs.Certificates.{Certificate}
use Rattle.x509_path_steps.specs.Inputs.{Inputs, SpellsOption}
use Rattle.x509_path_steps.specs.Keys.{given, with_parameters}
use Rattle.x509_path_steps.specs.Policies.{IsRefused}
use Rattle.x509_path_steps.specs.Says.{any_policy_inhibit_of, explicit_policy_of, mapping_inhibit_of}
use Rattle.x509_path_steps.specs.Validation.{AllowsPurpose, Apply, AreSpelled, AreUnusable, HasConstraints}
use Rattle.x509_path_steps.specs.declared.above.Above.{Above}
use Rattle.x509_path_steps.specs.declared.applied.Applied.{Applied}
use Rattle.x509_path_steps.specs.declared.asked.Asked.{Asked}
use Rattle.x509_path_steps.specs.declared.policies.Said.{Said}
use Rattle.x509_path_steps.specs.declared.validation_fault.ValidationFault.{ValidationFault}
use Rattle.x509_path_steps.specs.declared.validation_fault.ValidationFault.TheVariants.{Memory, Empty, Initial, At}
use Rattle.x509_path_steps.specs.declared.validation_fault.ValidationReason.{ValidationReason}
use Rattle.x509_path_steps.specs.declared.validation_fault.ValidationReason.TheVariants.{RepeatedPolicy, Policy, PolicyMapping}
use Rattle.x509_policy.specs.Levels.{In}
use Rattle.x509_policy.specs.Path as refusals
use Rattle.x509_policy.specs.Path.{Reason}
use Rattle.x509_policy.specs.Values as policies
use Rattle.x509_policy.specs.Views.{mapping_of, octets_of}

-- the sets are those that apply behind these certificates
abbrev pub Collects : Inputs → List Certificate → List NameConstraints → Type 0
Collects inputs before sets = (constraints : NameConstraints) → Contains sets constraints ↔ Apply inputs before constraints

-- they hold what these constraints say, and tell whether there are any
pub record Holds (held : Applied) (constraints : List NameConstraints) : Type 0 where
  pub applied : AreApplied held.sets constraints
  pub none : held.is_any ≡ false → constraints ≡ []

-- those that were asked for a purpose before
abbrev pub asked_before : Bool → List Certificate → List Certificate
asked_before true before = before
asked_before false before = []

-- of these purposes each is left that each of these certificates allows
abbrev pub AreLeft : Option (List (List ℕ)) → List Certificate → Option (List (List ℕ)) → Type 0
AreLeft purposes certificates None = purposes ≡ None
AreLeft purposes certificates (Some left) =
    (asked : List (List ℕ)) × (purposes ≡ Some asked) × ((p : List ℕ) → In p left ↔ (In p asked × All (λ c. AllowsPurpose p c) certificates))

-- what is left at a certificate
abbrev pub left_at : Asked → Option (List (List ℕ))
left_at asked = option_map (λ left. octets_of left.items) asked.purposes

-- the key is lent, and the parameters that it has from one above it
pub record HoldsKey (lent : Above) (key : SubjectPublicKeyInfo) : Type 0 where
  pub own : SubjectPublicKeyInfo
  pub inherited : Option Any
  pub spells : Spells subject_public_key_info own lent.anchor.key.now
  pub lends : SpellsOption (λ octets. octets.now) any lent.inherited inherited
  pub are_given : given inherited ≡ inherited
  pub is : key ≡ with_parameters own inherited

-- the constraints are those of the certificate, and absent where it has none that can be read
abbrev pub AreConstraintsOf : Certificate → Option NameConstraints → Type 0
AreConstraintsOf c found = (constraints : NameConstraints) → HasConstraints c constraints ↔ (found ≡ Some constraints)

-- what comes of constraints that are lent: they are added, or can't be used
abbrev pub AddsLent : Option NameConstraints → List NameConstraints → Applied → Result Unit ValidationFault → Type 0
AddsLent found applied sets (Ok _) = Holds sets applied × ((constraints : NameConstraints) → found ≡ Some constraints → IsUsable constraints)
AddsLent found applied sets (Err Memory) = Unit {0}
AddsLent found applied sets (Err Initial) = (constraints : NameConstraints) × (found ≡ Some constraints) × (IsUsable constraints → ⊥)
AddsLent found applied sets (Err Empty) = ⊥
AddsLent found applied sets (Err (At place reason)) = ⊥

-- what comes of the constraints of what is trusted and of the caller
abbrev pub Starts : Inputs → Result Applied ValidationFault → Type 0
Starts inputs (Ok sets) = ((applied : List NameConstraints) × Holds sets applied × Collects inputs [] applied) × (AreUnusable inputs → ⊥)
Starts inputs (Err Memory) = Unit {0}
Starts inputs (Err Initial) = AreUnusable inputs
Starts inputs (Err Empty) = ⊥
Starts inputs (Err (At place reason)) = ⊥

-- ---- policies

-- no extension of a type that is looked at is one that can't be read
abbrev pub NoneUnreadable : List Extension → Type 0
NoneUnreadable extensions = (AreSpelled extensions → ⊥) → ⊥

abbrev pub said_by : Said → policies.Certificate
said_by said = record {
  policies = option_map (λ found. octets_of found.items) said.policies;
  mappings = map mapping_of said.mappings.items;
  require_explicit_policy = explicit_policy_of said.constraints;
  inhibit_policy_mapping = mapping_inhibit_of said.constraints;
  inhibit_any_policy = any_policy_inhibit_of said.inhibit;
  is_self_issued = said.is_self_issued;
}

-- these, or else the caller's
abbrev pub chosen : List policies.Policy → Option (List policies.Policy) → List policies.Policy
chosen user None = user
chosen user (Some merged) = merged

-- under which reason that of policies is told
abbrev pub reason_for : Reason → ValidationReason
reason_for refusals.RepeatedPolicy = RepeatedPolicy
reason_for refusals.NoPolicy = Policy
reason_for refusals.MapsAnyPolicy = PolicyMapping

-- the fault is told at that place, where the certificate that says so is refused behind these
pub record TellsRefusal (settings : policies.Settings) (n : ℕ) (before : List policies.Certificate) (own : policies.Certificate) (place p : ℕ) (reason : ValidationReason) : Type 0 where
  pub why : Reason
  pub here : p ≡ place
  pub told : reason ≡ reason_for why
  pub refused : IsRefused settings n before own why

-- why the path doesn't go on at a certificate that says so, at that place in a path of n
abbrev pub StopsAt : policies.Settings → ℕ → List policies.Certificate → policies.Certificate → ℕ → ValidationFault → Type 0
StopsAt settings n before own place Memory = Unit {0}
StopsAt settings n before own place Empty = ⊥
StopsAt settings n before own place Initial = ⊥
StopsAt settings n before own place (At p reason) = TellsRefusal settings n before own place p reason
