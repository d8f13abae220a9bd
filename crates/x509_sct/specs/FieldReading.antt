-- How fields are read from the front of an input. These are tools of the proofs; the laws tie them to the forms.
use Rattle.std.specs.Prelude.{ℕ, zero, suc, ◌-◌, nat_lt, nat_eq, ◌⊎◌, List, [], ◌∷◌, length, take, drop, slice_index, Option, Some, None, Result, Ok, Err, if◌then◌else◌}
use Rattle.std.proofs.Common.{inl, inr}
use Rattle.std.specs.Int.{byte_worth, sum_through}
use Rattle.x509_sct.specs.declared.tls.error.TlsError.{TlsError}
use Rattle.x509_sct.specs.declared.tls.error.TlsError.TheVariants.{EndOfStream, UnknownValue, TrailingData, InvalidVectorLength}
use Rattle.x509_sct.specs.Outcome.{◌>>=◌}

-- the value in front of an input and what follows it, or a fault
abbrev pub Reading : Type 0 → Type 0
Reading X = List ℕ → Result (X × List ℕ) TlsError

unfoldable pub octets_at : ℕ → Reading (List ℕ)
octets_at k input = if nat_lt (length input) k then Err EndOfStream else Ok (take k input, drop k input)

-- the number that k octets are, the most significant first
abbrev pub number_of : ℕ → List ℕ → ℕ
number_of k octets = sum_through (λ i. byte_worth (k - 1 - i) (slice_index octets i)) (k - 1)

unfoldable pub number_at : ℕ → Reading ℕ
number_at k input = octets_at k input >>= λ x. Ok (number_of k x.0, x.1)

-- the first of the values that has this byte
abbrev pub name_of : {E : Type 0} → (E → ℕ) → List E → ℕ → Option E
name_of byte [] n = None
name_of byte (value ∷ values) n = if nat_eq n (byte value) then Some value else name_of byte values n

abbrev pub named_or : {E : Type 0} → Option E → ℕ → List ℕ → Result (E × List ℕ) TlsError
named_or None n rest = Err (UnknownValue n)
named_or (Some value) n rest = Ok (value, rest)

abbrev pub octet_at : Reading ℕ
octet_at [] = Err EndOfStream
octet_at (n ∷ rest) = Ok (n, rest)

unfoldable pub name_at : {E : Type 0} → (E → ℕ) → List E → Reading E
name_at byte values input = octet_at input >>= λ x. named_or (name_of byte values x.0) x.0 x.1

unfoldable pub counted_at : Reading ℕ → Reading (List ℕ)
counted_at count input = count input >>= λ n. octets_at n.0 n.1

abbrev pub filled_or : List ℕ × List ℕ → Result (List ℕ × List ℕ) TlsError
filled_or ([], rest) = Err InvalidVectorLength
filled_or (octet ∷ octets, rest) = Ok (octet ∷ octets, rest)

unfoldable pub filled_at : Reading (List ℕ) → Reading (List ℕ)
filled_at vector input = vector input >>= filled_or

abbrev pub both_at : {X Y : Type 0} → Reading X → Reading Y → Reading (X × Y)
both_at first second input = first input >>= λ x. second x.1 >>= λ y. Ok ((x.0, y.0), y.1)

unfoldable pub struct_at : {X Y : Type 0} → (X → Y) → Reading X → Reading Y
struct_at from fields input = fields input >>= λ x. Ok (from x.0, x.1)

abbrev pub case_at : {X Y : Type 0} → Reading X → Reading Y → ℕ × List ℕ → Result ((X ⊎ Y) × List ℕ) TlsError
case_at first second (zero, input) = first input >>= λ x. Ok (inl x.0, x.1)
case_at first second (suc zero, input) = second input >>= λ y. Ok (inr y.0, y.1)
case_at first second (suc (suc n), input) = Err (UnknownValue (suc (suc n)))

unfoldable pub select_at : {X Y : Type 0} → Reading ℕ → Reading X → Reading Y → Reading (X ⊎ Y)
select_at number first second input = number input >>= case_at first second

-- ---- an input that is one value and nothing more

abbrev pub whole_or : {X : Type 0} → X × List ℕ → Result X TlsError
whole_or (value, []) = Ok value
whole_or (value, b ∷ rest) = Err TrailingData

unfoldable pub whole_at : {X : Type 0} → Reading X → List ℕ → Result X TlsError
whole_at read input = read input >>= whole_or
