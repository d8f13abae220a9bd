-- Texts that are compared without memory. A tool of the proofs: the laws tie it to `prepared`.
use Rattle.std.specs.Prelude.{◌≡◌, ℕ, ◌≤◌, Bool, true, false, ◌&&◌, ◌||◌, cond, nat_eq, nat_le, bytes_eq, List, [], ◌∷◌, length, map, sum_by, All, Option, Some, None, MatchOption}
use Rattle.std.specs.Char.{to_ascii_lowercase}
use Rattle.std.specs.List.{list_all, AllByRecursion}
use Rattle.x509_der.specs.declared.tag.Tag.{Tag}
use Rattle.x509_der.specs.declared.tag.Tag.TheVariants.{Utf8String, BmpString, UniversalString}
use Rattle.x509_name.specs.declared.attr.type_and_value.AttributeTypeAndValue.{AttributeTypeAndValue}
use Rattle.x509_prim.specs.Alphabet.{is_ia5}
use Rattle.x509_match.specs.Keys.{characters}
use Rattle.x509_match.specs.Prepared.{mapped, squeezed_behind}

-- no text, or one in ASCII of which each octet is a character
abbrev pub is_plain : Tag → List ℕ → Bool
is_plain Utf8String content = list_all is_ia5 content
is_plain BmpString content = false
is_plain UniversalString content = false
is_plain _ content = true

abbrev pub is_letter : ℕ → Bool
is_letter c = nat_le 0x21 c && nat_le c 0x7E

abbrev pub is_white : ℕ → Bool
is_white c = nat_eq c 0x20 || (nat_le 0x09 c && nat_le c 0x0D)

-- what is left of an ASCII text, as of `squeezed_behind`
abbrev pub plain_behind : Bool → Bool → List ℕ → List ℕ
plain_behind begun gap text = squeezed_behind begun gap (map to_ascii_lowercase (mapped text))

-- the next octet of a prepared text, and what is left behind it
pub record IsNext (begun : Bool) (text : List ℕ) (next : Option ℕ) (rest : List ℕ) : Type 0 where
  pub octet : MatchOption next (plain_behind begun false text ≡ []) (λ c. plain_behind begun false text ≡ c ∷ plain_behind true false rest)
  pub ascii : list_all is_ia5 rest ≡ true

-- whether a plain element is a text, and which characters it has
abbrev pub IsPlainText : Bool → Tag → List ℕ → Type 0
IsPlainText true tag content = (list_all is_ia5 content ≡ true) × (characters tag content ≡ Some content)
IsPlainText false tag content = characters tag content ≡ None

-- ---- names that are compared without memory

abbrev pub IsPlainValue : AttributeTypeAndValue → Type 0
IsPlainValue a = is_plain a.value.tag a.value.value ≡ true

abbrev pub ArePlain : List AttributeTypeAndValue → Type 0
ArePlain attributes = All IsPlainValue attributes

-- no text beyond ASCII, in at most 16 attributes
abbrev pub IsPlainRdn : List AttributeTypeAndValue → Type 0
IsPlainRdn rdn = (length rdn ≤ 16) × ArePlain rdn

abbrev pub IsPlainName : List (List AttributeTypeAndValue) → Type 0
IsPlainName name = AllByRecursion IsPlainRdn name

-- ---- partners, counted

-- how many of the keys are the one
abbrev pub tally : List ℕ → List (List ℕ) → ℕ
tally one keys = sum_by (λ key. cond (bytes_eq one key) 1 0) keys
