-- What calls leave that ask whether two encoded names match (RFC 5280 7.1), or are equal.
use Rattle.std.specs.Prelude.{◌≡◌, ◌⊎◌, ℕ, List}
use Rattle.x509_c_calls.specs.declared.status.status.Status.{Status}
use Rattle.x509_c_calls.specs.declared.status.status.Status.TheVariants.{Done, Refused}
use Rattle.x509_der.specs.declared.error.ErrorKind.{ErrorKind}
use Rattle.x509_der.specs.declared.error.ErrorKind.TheVariants.{Memory}
use Rattle.x509_der.specs.Form.{Form, Spells}
use Rattle.x509_match.specs.Matching.{NamesMatch}
use Rattle.x509_match.specs.Plain.{IsPlainName}
use Rattle.x509_name.specs.declared.attr.type_and_value.AttributeTypeAndValue.{AttributeTypeAndValue}
use Rattle.x509_types.specs.Reencoding.{IsRefused}

-- two names that bytes spell
pub record TwoNames (form : Form (List (List AttributeTypeAndValue))) (a b : List ℕ) : Type 0 where
  pub left : List (List AttributeTypeAndValue)
  pub right : List (List AttributeTypeAndValue)
  pub left_spelled : Spells form left a
  pub right_spelled : Spells form right b

-- 1 where they match, else 0
abbrev pub IsAnswer : List (List AttributeTypeAndValue) → List (List AttributeTypeAndValue) → ℕ → Type 0
IsAnswer left right answer = ((answer ≡ 1) × NamesMatch left right) ⊎ ((answer ≡ 0) × (NamesMatch left right → ⊥))

-- the first that is no name is refused, or both are names, of which not all values are compared in place, and memory ran out
abbrev pub IsWhyRefused : Form (List (List AttributeTypeAndValue)) → (ErrorKind → Type 0) → List ℕ → List ℕ → ErrorKind → Type 0
IsWhyRefused form refuses a b e =
    ((e ≡ Memory) × (names : TwoNames form a b) × (IsPlainName names.left → IsPlainName names.right → ⊥))
    ⊎ (IsRefused form refuses a e
    ⊎ ((left : List (List AttributeTypeAndValue)) × Spells form left a × IsRefused form refuses b e))

-- Done: both are names, and whether they match is filled in. Where the call is refused, what isn't filled in stays as it was.
unfoldable pub TellsWhetherNamesMatch : Form (List (List AttributeTypeAndValue)) → (ErrorKind → Type 0) → List ℕ → List ℕ → ℕ → ℕ → Status → Type 0
TellsWhetherNamesMatch form refuses a b was is Done = (names : TwoNames form a b) × IsAnswer names.left names.right is
TellsWhetherNamesMatch form refuses a b was is (Refused e) = IsWhyRefused form refuses a b e × (is ≡ was)
TellsWhetherNamesMatch form refuses a b was is _ = ⊥

-- 1 where they are the same bytes, else 0
abbrev pub IsSame : List ℕ → List ℕ → ℕ → Type 0
IsSame a b answer = ((answer ≡ 1) × (a ≡ b)) ⊎ ((answer ≡ 0) × (a ≡ b → ⊥))

-- Done: both are names, and whether they are equal is filled in; else the first that is no name is refused, and what isn't filled in stays as it was.
unfoldable pub TellsWhetherNamesEqual : Form (List (List AttributeTypeAndValue)) → (ErrorKind → Type 0) → List ℕ → List ℕ → ℕ → ℕ → Status → Type 0
TellsWhetherNamesEqual form refuses a b was is Done = TwoNames form a b × IsSame a b is
TellsWhetherNamesEqual form refuses a b was is (Refused e) =
    (IsRefused form refuses a e ⊎ ((left : List (List AttributeTypeAndValue)) × Spells form left a × IsRefused form refuses b e)) × (is ≡ was)
TellsWhetherNamesEqual form refuses a b was is _ = ⊥
