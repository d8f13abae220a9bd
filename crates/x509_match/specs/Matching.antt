-- Which names match (RFC 5280 7.1): as many RDNs, in order, of which each matches the other's.
use Rattle.std.specs.Prelude.{◌≡◌, ◌⊎◌, ℕ, Bool, List, [], ◌∷◌, length, map, take, Option, Some, is_some, IsPermutation}
use Rattle.x509_name.specs.declared.attr.type_and_value.AttributeTypeAndValue.{AttributeTypeAndValue}
use Rattle.x509_match.specs.Keys.{attribute_key, characters, compared_value}

-- each attribute has a partner of its own in the other, which is compared by the same
abbrev pub RdnsMatch : List AttributeTypeAndValue → List AttributeTypeAndValue → Type 0
RdnsMatch x y = IsPermutation (map attribute_key x) (map attribute_key y)

abbrev pub NamesMatch : List (List AttributeTypeAndValue) → List (List AttributeTypeAndValue) → Type 0
NamesMatch [] [] = Unit {0}
NamesMatch (x ∷ xs) (y ∷ ys) = RdnsMatch x y × NamesMatch xs ys
NamesMatch _ _ = ⊥

-- the first RDNs of x match those of y, in order
abbrev pub BeginsWith : List (List AttributeTypeAndValue) → List (List AttributeTypeAndValue) → Type 0
BeginsWith x y = NamesMatch (take (length y) x) y

-- ---- what it is to be compared by the same

abbrev pub compared_text : AttributeTypeAndValue → Option (List ℕ)
compared_text a = compared_value a.oid (characters a.value.tag a.value.value)

-- its value is compared as a text; another one matches its own element alone
abbrev pub is_compared : AttributeTypeAndValue → Bool
is_compared a = is_some (compared_text a)

-- one type, and one element or one text
abbrev pub AttributesMatch : AttributeTypeAndValue → AttributeTypeAndValue → Type 0
AttributesMatch a b = (a.oid ≡ b.oid) × ((a.value ≡ b.value) ⊎ ((text : List ℕ) × (compared_text a ≡ Some text) × (compared_text b ≡ Some text)))
