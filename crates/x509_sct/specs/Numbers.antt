-- Numbers of two, three and eight bytes, and vectors of bytes.
use Rattle.std.proofs.Common.{◌≡◌, ℕ, zero, suc, ◌<◌, ◌^◌, List, [], ◌∷◌, length, drop, Ok, refl, ap, length-append, arith}
use Rattle.std.specs.Int.{bytes_high_first}
use Rattle.std.proofs.lemmas.Nat.{be_bytes_2, from_be_bytes-to_be_bytes_2, be_bytes_4, from_be_bytes-to_be_bytes_4, be_bytes_8, from_be_bytes-to_be_bytes_8}
use Rattle.x509_sct.specs.FieldReading.{octets_at, number_of, number_at}
use Rattle.x509_sct.specs.Form.{Form, AreOctets, IsForm, number, counted, filled}
use Rattle.x509_sct.specs.FormLaws.{number_lawful, counted_lawful, filled_lawful, taken}
use Rattle.x509_sct.specs.Items.{Moves}
use Rattle.x509_sct.specs.Steps.{bind_ok, ok_is}

abbrev pub uint16 : Form ℕ
uint16 = number 2

abbrev pub uint24 : Form ℕ
uint24 = number 3

abbrev pub uint64 : Form ℕ
uint64 = number 8

-- opaque T<0..2^16-1>
abbrev pub vector16 : Form (List ℕ)
vector16 = counted uint16

-- opaque T<1..2^24-1>
abbrev pub vector24 : Form (List ℕ)
vector24 = filled (counted uint24)

below_16 : (octets : List ℕ) → length octets ≡ 2 → AreOctets octets → number_of 2 octets < 2 ^ 16
below_16 [] e o = absurd (omega arith)
below_16 (a ∷ []) e o = absurd (omega arith)
below_16 (a ∷ b ∷ []) e o = omega (arith, o 0, o 1)
below_16 (a ∷ b ∷ c ∷ octets) e o = absurd (omega arith)

pub uint16_lawful : IsForm uint16
uint16_lawful = number_lawful 2 (record { size = λ n. refl; back = be_bytes_2; again = from_be_bytes-to_be_bytes_2; below = below_16 })

below_24 : (octets : List ℕ) → length octets ≡ 3 → AreOctets octets → number_of 3 octets < 2 ^ 24
below_24 [] e o = absurd (omega arith)
below_24 (a ∷ []) e o = absurd (omega arith)
below_24 (a ∷ b ∷ []) e o = absurd (omega arith)
below_24 (a ∷ b ∷ c ∷ []) e o = omega (arith, o 0, o 1, o 2)
below_24 (a ∷ b ∷ c ∷ d ∷ octets) e o = absurd (omega arith)

octets_behind_zero : (octets : List ℕ) → AreOctets octets → AreOctets (0 ∷ octets)
octets_behind_zero octets o = elim [ zero ↦ omega arith | suc i ↦ o i ]

-- three bytes are the last of four
back_3 : (octets : List ℕ) (n : ℕ) → length octets ≡ 3 → AreOctets octets → n ≡ number_of 3 octets → bytes_high_first 3 n ≡ octets
back_3 octets n l o is = ap (λ (all : List ℕ). drop 1 all) (be_bytes_4 (0 ∷ octets) n (omega arith) (octets_behind_zero octets o) (omega (arith, is)))

again_3 : (n : ℕ) → n < 2 ^ 24 → number_of 3 (bytes_high_first 3 n) ≡ n
again_3 n fits = omega (arith, fits, from_be_bytes-to_be_bytes_4 n (omega arith))

pub uint24_lawful : IsForm uint24
uint24_lawful = number_lawful 3 (record { size = λ n. refl; back = back_3; again = again_3; below = below_24 })

below_64 : (octets : List ℕ) → length octets ≡ 8 → AreOctets octets → number_of 8 octets < 2 ^ 64
below_64 [] e o = absurd (omega arith)
below_64 (a ∷ []) e o = absurd (omega arith)
below_64 (a ∷ b ∷ []) e o = absurd (omega arith)
below_64 (a ∷ b ∷ c ∷ []) e o = absurd (omega arith)
below_64 (a ∷ b ∷ c ∷ d ∷ []) e o = absurd (omega arith)
below_64 (a ∷ b ∷ c ∷ d ∷ x ∷ []) e o = absurd (omega arith)
below_64 (a ∷ b ∷ c ∷ d ∷ x ∷ y ∷ []) e o = absurd (omega arith)
below_64 (a ∷ b ∷ c ∷ d ∷ x ∷ y ∷ z ∷ []) e o = absurd (omega arith)
below_64 (a ∷ b ∷ c ∷ d ∷ x ∷ y ∷ z ∷ w ∷ []) e o = omega (arith, o 0, o 1, o 2, o 3, o 4, o 5, o 6, o 7)
below_64 (a ∷ b ∷ c ∷ d ∷ x ∷ y ∷ z ∷ w ∷ v ∷ octets) e o = absurd (omega arith)

pub uint64_lawful : IsForm uint64
uint64_lawful = number_lawful 8 (record { size = λ n. refl; back = be_bytes_8; again = from_be_bytes-to_be_bytes_8; below = below_64 })

pub vector16_lawful : IsForm vector16
vector16_lawful = counted_lawful uint16 uint16_lawful

pub vector24_lawful : IsForm vector24
vector24_lawful = filled_lawful (counted uint24) (counted_lawful uint24 uint24_lawful)

pub uint16_moves : Moves uint16.reading
unfolding number_at
uint16_moves input n rest e =
    let b = bind_ok (octets_at 2 input) (λ x. Ok (number_of 2 x.0, x.1)) (n, rest) e in
    let t = taken 2 input b.0.0 b.0.1 b.1 in
    let r : b.0.1 ≡ rest = ap (λ (x : ℕ × List ℕ). x.1) (ok_is (number_of 2 b.0.0, b.0.1) (n, rest) b.2) in
    rw (← r) (omega (arith, t.0, ap length t.1, length-append b.0.0 b.0.1))
