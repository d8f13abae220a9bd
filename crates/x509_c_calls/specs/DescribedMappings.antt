-- Lists of pairs of policies that are encoded of these (RFC 5280 4.2.1.5).
use Rattle.std.specs.List.{list_any}
use Rattle.std.specs.Prelude.{◌≡◌, ◌⊎◌, ◌||◌, ℕ, Bool, List, [], bytes_eq, false, true}
use Rattle.x509_c_calls.specs.DescribedPolicies.{any_policy}
use Rattle.x509_c_calls.specs.Input.{RefusesEach, SpellEach}
use Rattle.x509_der.specs.declared.error.ErrorKind.{ErrorKind}
use Rattle.x509_der.specs.declared.error.ErrorKind.TheVariants.{Value}
use Rattle.x509_ext.specs.PolicyMapping.{policy_mapping}
use Rattle.x509_ext.specs.declared.pkix.policy_mapping.PolicyMapping.{PolicyMapping}

-- one policy of the pair is anyPolicy
abbrev pub has_any_policy : PolicyMapping → Bool
has_any_policy mapping = bytes_eq mapping.issuer_domain_policy any_policy || bytes_eq mapping.subject_domain_policy any_policy

-- the pairs whose encodings the bytes are, one after the other, of which there is one at least, and none has anyPolicy
pub record AreMappingsOf (bytes : List ℕ) (mappings : List PolicyMapping) : Type 0 where
  pub said : SpellEach policy_mapping mappings bytes
  pub some : bytes ≡ [] → ⊥
  pub mapped : list_any has_any_policy mappings ≡ false

-- there are none: the bytes are refused, or there are none, or one has anyPolicy
abbrev pub RefusesMappings : List ℕ → ErrorKind → Type 0
RefusesMappings bytes e =
    ((e ≡ Value) × (bytes ≡ []))
    ⊎ (RefusesEach policy_mapping (λ e. ⊥) bytes e
    ⊎ ((e ≡ Value) × ((mappings : List PolicyMapping) × SpellEach policy_mapping mappings bytes × (list_any has_any_policy mappings ≡ true))))
