-- Keys of RDNs and names.
use Rattle.std.specs.Prelude.{ℕ, List, [], ◌∷◌, map, IsPermutation, IsSortedByKey}
use Rattle.std.specs.Cmp.Lexicographic.{slice_cmp}
use Rattle.std.specs.Ordering.{nat_cmp}
use Rattle.x509_name.specs.declared.attr.type_and_value.AttributeTypeAndValue.{AttributeTypeAndValue}
use Rattle.x509_match.specs.Keys.{attribute_key}
use Rattle.x509_match.specs.declared.key.RdnKey.{RdnKey}
use Rattle.x509_match.specs.declared.key.MatchedName.{MatchedName}

-- the octets of each attribute that it holds
abbrev pub attributes_of : RdnKey → List (List ℕ)
attributes_of key = map (λ attribute. attribute.items) key.attributes.items

-- it holds what each attribute is compared by, in ascending order
pub record IsRdnKey (key : RdnKey) (rdn : List AttributeTypeAndValue) : Type 0 where
  pub same : IsPermutation (map attribute_key rdn) (attributes_of key)
  pub sorted : IsSortedByKey (λ attribute. attribute.items) (slice_cmp nat_cmp) key.attributes.items

abbrev pub AreRdnKeys : List RdnKey → List (List AttributeTypeAndValue) → Type 0
AreRdnKeys [] [] = Unit {0}
AreRdnKeys (key ∷ keys) (rdn ∷ rdns) = IsRdnKey key rdn × AreRdnKeys keys rdns
AreRdnKeys _ _ = ⊥

-- it holds the keys of the RDNs, in their order
abbrev pub IsNameKey : MatchedName → List (List AttributeTypeAndValue) → Type 0
IsNameKey key name = AreRdnKeys key.rdns.items name
