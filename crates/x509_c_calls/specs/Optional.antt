-- Parts that may be left out, by their places.
use Rattle.std.specs.Prelude.{◌≡◌, ℕ, List, Option, Some, None}
use Rattle.x509_c_calls.specs.Place.{IsAt}
use Rattle.x509_c_calls.specs.declared.place.span.Span.{Span}

-- both numbers are 0
abbrev pub IsNowhere : Span → Type 0
IsNowhere span = span ≡ record { place = 0; len = 0 }

-- these octets of a value stand there, and those others behind them; of one that is left out nowhere
abbrev pub IsPerhapsAt : {X : Type 0} → (X → List ℕ) → Option X → List ℕ → List ℕ → Span → Type 0
IsPerhapsAt octets None behind bytes span = IsNowhere span
IsPerhapsAt octets (Some value) behind bytes span = IsAt (octets value) behind bytes span

-- a number that is left out is 0, and whether it is there is 1 or 0
abbrev pub IsNumber : Option ℕ → ℕ → ℕ → Type 0
IsNumber None is_there number = (is_there ≡ 0) × (number ≡ 0)
IsNumber (Some value) is_there number = (is_there ≡ 1) × (number ≡ value)
