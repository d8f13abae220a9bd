-- The constraints at the start of a path.
use Rattle.std.proofs.Common.{◌≡◌, ◌++◌, Contains, Err, Some, None, inl, inr, List, [], Option, refl, subst, arith}
use Rattle.std.specs.Option.{option_to_list}
use Rattle.std.proofs.lemmas.List.Elements.{Contains-append_cases, Contains-append_left, Contains-append_right, Contains-push, Contains-push_cases}
use Rattle.x509_constraints.specs.Constraints.{IsUsable}
use Rattle.x509_ext.specs.declared.pkix.name_constraints.NameConstraints.{NameConstraints}
use Rattle.x509_path_steps.specs.Inputs.{Inputs}
use Rattle.x509_path_steps.specs.Steps.{AddsLent, Collects, Starts}
use Rattle.x509_path_steps.specs.Validation.{Apply, AreUnusable}
use Rattle.x509_path_steps.specs.declared.applied.Applied.{Applied}
use Rattle.x509_path_steps.specs.declared.validation_fault.ValidationFault.{ValidationFault}
use Rattle.x509_path_steps.specs.declared.validation_fault.ValidationFault.TheVariants.{Memory, Empty, Initial, At}

pub one_of : (o : Option NameConstraints) (constraints : NameConstraints) → Contains (option_to_list o) constraints → o ≡ Some constraints
one_of None constraints (k, less, at) = absurd (omega (arith, less))
one_of (Some x) constraints within = elim (Contains-push_cases [] x constraints within) [
  | inl (k, less, at) ↦ absurd (omega (arith, less))
  | inr same ↦ subst (λ y. Some x ≡ Some y) same refl
]

pub in_one : (o : Option NameConstraints) (constraints : NameConstraints) → o ≡ Some constraints → Contains (option_to_list o) constraints
in_one None constraints is = cc
in_one (Some x) constraints is = let one : constraints ≡ x = cc in rw one (Contains-push [] x)

module _ (inputs : Inputs) where
  abbrev start : List NameConstraints
  start = option_to_list inputs.trust.constraints ++ option_to_list inputs.constraints

  there : (constraints : NameConstraints) → Contains start constraints → Apply inputs [] constraints
  there constraints within = elim (Contains-append_cases (option_to_list inputs.trust.constraints) (option_to_list inputs.constraints) constraints within) [
    | inl trusted ↦ inl (one_of inputs.trust.constraints constraints trusted)
    | inr own ↦ inr (inl (one_of inputs.constraints constraints own))
  ]

  back : (constraints : NameConstraints) → Apply inputs [] constraints → Contains start constraints
  back constraints (inl trusted) = Contains-append_left (option_to_list inputs.trust.constraints) (option_to_list inputs.constraints) constraints (in_one inputs.trust.constraints constraints trusted)
  back constraints (inr (inl own)) = Contains-append_right (option_to_list inputs.trust.constraints) (option_to_list inputs.constraints) constraints (in_one inputs.constraints constraints own)
  back constraints (inr (inr (c, (k, less, at), is))) = absurd (omega (arith, less))

  pub collects : Collects inputs [] (option_to_list inputs.trust.constraints ++ option_to_list inputs.constraints)
  collects constraints = (there constraints, back constraints)

  pub all_usable : ((constraints : NameConstraints) → inputs.trust.constraints ≡ Some constraints → IsUsable constraints)
      → ((constraints : NameConstraints) → inputs.constraints ≡ Some constraints → IsUsable constraints) → AreUnusable inputs → ⊥
  all_usable trusted own (constraints, inl is, never) = never (trusted constraints is)
  all_usable trusted own (constraints, inr (inl is), never) = never (own constraints is)
  all_usable trusted own (constraints, inr (inr (c, (k, less, at), is)), never) = omega (arith, less)

  -- constraints that can't be used stop the start, where they would apply
  pub stopped : (found : Option NameConstraints) (applied : List NameConstraints) (sets : Applied) (fault : ValidationFault) → AddsLent found applied sets (Err fault)
      → ((constraints : NameConstraints) → found ≡ Some constraints → Apply inputs [] constraints) → Starts inputs (Err fault)
  stopped found applied sets Memory is apply = tt
  stopped found applied sets Empty is apply = is
  stopped found applied sets Initial (constraints, some, never) apply = (constraints, apply constraints some, never)
  stopped found applied sets (At place reason) is apply = is
