-- Attributes of CSRs and of subjects, encoded of their values (RFC 2986 4.1, RFC 5280 4.2.1.8).
use Rattle.std.specs.List.Sorted.{IsPermutation}
use Rattle.std.specs.Prelude.{◌≡◌, ◌⊎◌, ℕ, List, []}
use Rattle.x509_c_calls.specs.DescribedParts.{RefusesOid}
use Rattle.x509_c_calls.specs.Input.{RefusesEach, SpellEach}
use Rattle.x509_der.specs.Any.{any}
use Rattle.x509_der.specs.Set.{AreDistinct}
use Rattle.x509_der.specs.declared.any.Any.{Any}
use Rattle.x509_der.specs.declared.error.ErrorKind.{ErrorKind}
use Rattle.x509_der.specs.declared.error.ErrorKind.TheVariants.{SetDuplicate, Value}
use Rattle.x509_name.specs.declared.attr.attribute.Attribute.{Attribute}

-- that of the type with that OID, with the set of the values whose encodings the bytes are, of which there is one at least (RFC 5280 A.1)
pub record IsRequestAttributeOf (oid values : List ℕ) (attribute : Attribute) : Type 0 where
  pub oid_is : attribute.oid ≡ oid
  pub some : values ≡ [] → ⊥
  pub values_are : (given : List Any) × SpellEach any given values × IsPermutation given attribute.values

-- there is none: there is no value, the octets are no OID, the values are refused, or two of them are equal
abbrev pub RefusesRequestAttribute : List ℕ → List ℕ → ErrorKind → Type 0
RefusesRequestAttribute oid values e =
    ((e ≡ Value) × (values ≡ []))
    ⊎ (RefusesOid oid e
    ⊎ (RefusesEach any (λ e. ⊥) values e
    ⊎ ((e ≡ SetDuplicate) × ((given : List Any) × SpellEach any given values × (¬ AreDistinct given)))))
