-- Lists of numbers that are encoded of their octets, as TLS features (RFC 7633 4) and references to notices (RFC 5280 4.2.1.4) have them.
use Rattle.std.specs.List.{list_any}
use Rattle.std.specs.Prelude.{◌≡◌, ◌⊎◌, ℕ, List, map, nat_eq, false, true}
use Rattle.x509_c_calls.specs.Pieces.{AreCut}
use Rattle.x509_der.specs.declared.error.ErrorKind.{ErrorKind}
use Rattle.x509_der.specs.declared.error.ErrorKind.TheVariants.{Failed, Value}
use Rattle.x509_prim.specs.Integer.{with_sign, without_zeros}

-- the content octets of the INTEGER whose number has these octets, the most significant first
abbrev pub number_of : List ℕ → List ℕ
number_of octets = with_sign (without_zeros octets)

-- the numbers into whose octets the bytes are cut, each of which has some
abbrev pub AreNumbersOf : List ℕ → List ℕ → List (List ℕ) → Type 0
AreNumbersOf bytes lens numbers =
    (pieces : List (List ℕ)) × AreCut bytes lens pieces × (numbers ≡ map number_of pieces) × (list_any (λ len. nat_eq len 0) lens ≡ false)

-- there are none: a number has no octets, or the lengths don't add up
abbrev pub RefusesNumbers : List ℕ → List ℕ → ErrorKind → Type 0
RefusesNumbers bytes lens e =
    ((e ≡ Value) × (list_any (λ len. nat_eq len 0) lens ≡ true)) ⊎ ((e ≡ Failed) × ((pieces : List (List ℕ)) → AreCut bytes lens pieces → ⊥))
