-- Lists of policies that are encoded of these (RFC 5280 4.2.1.4).
use Rattle.std.specs.Prelude.{◌≡◌, ◌⊎◌, ℕ, List, [], map}
use Rattle.x509_c_calls.specs.Input.{RefusesEach, SpellEach}
use Rattle.x509_der.specs.Set.{AreDistinct}
use Rattle.x509_der.specs.declared.error.ErrorKind.{ErrorKind}
use Rattle.x509_der.specs.declared.error.ErrorKind.TheVariants.{Value}
use Rattle.x509_ext.specs.PolicyInformation.{policy_information}
use Rattle.x509_ext.specs.declared.pkix.policy_information.PolicyInformation.{PolicyInformation}

-- the OIDs of the policies
abbrev pub identifiers_in : List PolicyInformation → List (List ℕ)
identifiers_in policies = map (λ policy. policy.policy_identifier) policies

-- the policies whose encodings the bytes are, one after the other, of which there is one at least, and none twice
pub record ArePoliciesOf (bytes : List ℕ) (policies : List PolicyInformation) : Type 0 where
  pub said : SpellEach policy_information policies bytes
  pub some : bytes ≡ [] → ⊥
  pub once : AreDistinct (identifiers_in policies)

-- there are none: the bytes are refused, or there are none, or a policy is there twice
abbrev pub RefusesPolicies : List ℕ → ErrorKind → Type 0
RefusesPolicies bytes e =
    ((e ≡ Value) × (bytes ≡ []))
    ⊎ (RefusesEach policy_information (λ e. ⊥) bytes e
    ⊎ ((e ≡ Value) × ((policies : List PolicyInformation) × SpellEach policy_information policies bytes × (¬ AreDistinct (identifiers_in policies)))))
