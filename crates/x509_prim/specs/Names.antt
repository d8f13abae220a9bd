-- Types of which each value is a number with a name: ENUMERATED, and INTEGER of which all numbers have names (X.680 19.5,
-- 20.5). The content octets are those of the number as an INTEGER (X.690 8.3, 8.4).
use Rattle.std.specs.Prelude.{◌≡◌, ℕ, ◌^◌, true, nat_eq, nat_lt, List, [], ◌∷◌, Option, Some, None, Result, Ok, Err, if◌then◌else◌}
use Rattle.std.specs.List.{list_all}
use Rattle.x509_der.specs.declared.error.ErrorKind.{ErrorKind}
use Rattle.x509_der.specs.declared.error.ErrorKind.TheVariants.{Malformed}
use Rattle.x509_der.specs.declared.tag.Tag.{Tag}
use Rattle.x509_der.specs.Outcome.{◌>>=◌}
use Rattle.x509_der.specs.Form.{Form, Contents, universal}
use Rattle.x509_der.specs.Natural.{natural_octets, natural_reading}

-- ---- names

-- the first of the values that has this number
abbrev pub with_number : {T : Type 0} → (T → ℕ) → List T → ℕ → Option T
with_number number [] n = None
with_number number (value ∷ values) n = if nat_eq (number value) n then Some value else with_number number values n

-- All values of a type, and the number of each: no two of them have one number, and each is below 256.
pub record Names (T : Type 0) : Type 0 where
  pub values : List T
  pub number : T → ℕ
  pub found : (value : T) → with_number number values (number value) ≡ Some value
  pub small : list_all (λ value. nat_lt (number value) 256) values ≡ true

-- the value that has this number
abbrev pub named : {T : Type 0} → Names T → ℕ → Option T
named names n = with_number names.number names.values n

-- ---- contents

abbrev pub value_or_malformed : {T : Type 0} → Option T → Result T ErrorKind
value_or_malformed None = Err Malformed
value_or_malformed (Some value) = Ok value

unfoldable pub named_reading : {T : Type 0} → Names T → List ℕ → Result T ErrorKind
named_reading names bytes = natural_reading (2 ^ 8) bytes >>= λ n. value_or_malformed (named names n)

-- the content octets of the number of the value
abbrev pub named_contents : {T : Type 0} → Names T → Contents T
named_contents names = record {
  octets = λ value. natural_octets (names.number value);
  good = λ value. Unit {0};
  reading = named_reading names;
}

abbrev pub named_form : {T : Type 0} → Tag → Names T → Form T
named_form tag names = universal tag (named_contents names)
