-- Where parts stand in bytes.
use Rattle.std.specs.Prelude.{◌≡◌, ℕ, ◌≤◌, Bool, true, false, List, [], ◌++◌, length, drop}
use Rattle.x509_der.specs.Element.{element, is_identifier}
use Rattle.x509_c_calls.specs.declared.place.span.Span.{Span}

-- these octets stand in the bytes at this place, and behind them stand those others and nothing else
abbrev pub IsAt : List ℕ → List ℕ → List ℕ → Span → Type 0
IsAt text behind bytes span = (drop span.place bytes ≡ text ++ behind) × (span.len ≡ length text) × (span.place ≤ length bytes)

-- a field that is there is an element, and one that is left out is no octets
abbrev pub IsField : Bool → List ℕ → Type 0
IsField true text = (tag : ℕ) × (content : List ℕ) × (is_identifier tag ≡ true) × (text ≡ element tag content)
IsField false text = text ≡ []

-- these octets stand in the bytes, and behind them stand those others and nothing else
abbrev pub EndsWith : List ℕ → List ℕ → List ℕ → Type 0
EndsWith text behind bytes = (front : List ℕ) × (bytes ≡ front ++ (text ++ behind))
