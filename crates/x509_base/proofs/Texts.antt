-- The text of octets in hex, joined by colons.
use Rattle.std.proofs.Common.{◌≡◌, ℕ, ◌-◌, ◌^◌, ◌<◌, ◌≤◌, true, false, List, [], ◌∷◌, ◌++◌, length, take, get_or, refl, ap, arith}
use Rattle.std.specs.Fmt.{digits, padded_integral, format_spec}
use Rattle.std.proofs.lemmas.Fmt.{hex_byte}
use Rattle.x509_prim.specs.Integer.{is_integer}
use Rattle.x509_base.specs.Serial.{hex_octet, colon_hex}

-- the text of one octet
pub colon_hex_one : (octet : ℕ) → octet < 256 → colon_hex (octet ∷ []) ≡ padded_integral (format_spec 32 0 4 2 (2 ^ 64 - 1)) false [] (digits 16 true octet)
unfolding colon_hex
colon_hex_one octet small = rw (hex_byte true octet small) refl

-- one octet more
pub colon_hex_more : (octets : List ℕ) (octet : ℕ) → 0 < length octets → octet < 256
    → colon_hex (octets ++ octet ∷ []) ≡ colon_hex octets ++ (58 ∷ padded_integral (format_spec 32 0 4 2 (2 ^ 64 - 1)) false [] (digits 16 true octet))
unfolding colon_hex
colon_hex_more [] octet some small = absurd (omega arith)
colon_hex_more (first ∷ []) octet some small = rw (hex_byte true octet small) refl
colon_hex_more (first ∷ second ∷ octets) octet some small = ap (λ (text : List ℕ). hex_octet first ++ (58 ∷ text)) (colon_hex_more (second ∷ octets) octet (omega arith) small)

-- an integer has an octet
pub some_octet : (octets : List ℕ) → is_integer octets ≡ true → 0 < length octets
unfolding is_integer
some_octet [] h = absurd cc
some_octet (first ∷ octets) h = omega arith

pub take_one : (octets : List ℕ) → 1 ≤ length octets → take 1 octets ≡ get_or octets 0 0 ∷ []
take_one [] some = absurd (omega arith)
take_one (first ∷ octets) some = refl
