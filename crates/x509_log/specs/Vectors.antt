-- Vectors of at least one byte move on.
use Rattle.std.proofs.Common.{◌≡◌, ℕ, ◌≤◌, ◌∷◌, List, [], Ok, Err, refl, ap, length, length-append, arith}
use Rattle.x509_sct.specs.FieldReading.{counted_at, filled_at, filled_or, number_at, number_of, octets_at}
use Rattle.x509_sct.specs.FormLaws.{taken}
use Rattle.x509_sct.specs.Items.{Moves}
use Rattle.x509_sct.specs.ItemsLaws.{counted_moves}
use Rattle.x509_sct.specs.Numbers.{uint24, vector24}
use Rattle.x509_sct.specs.declared.tls.error.TlsError.TheVariants.{InvalidVectorLength}
use Rattle.x509_sct.specs.Steps.{bind_ok, ok_is}

uint24_moves : Moves uint24.reading
unfolding number_at
uint24_moves input n rest e =
    let b = bind_ok (octets_at 3 input) (λ x. Ok (number_of 3 x.0, x.1)) (n, rest) e in
    let t = taken 3 input b.0.0 b.0.1 b.1 in
    let r : b.0.1 ≡ rest = ap (λ (x : ℕ × List ℕ). x.1) (ok_is (number_of 3 b.0.0, b.0.1) (n, rest) b.2) in
    rw (← r) (omega (arith, t.0, ap length t.1, length-append b.0.0 b.0.1))

filled_is : (octets rest octets2 rest2 : List ℕ) → filled_or (octets, rest) ≡ Ok (octets2, rest2) → rest ≡ rest2
filled_is [] rest octets2 rest2 e = absurd cc
filled_is (octet ∷ octets) rest octets2 rest2 e = ap (λ (x : List ℕ × List ℕ). x.1) (ok_is (octet ∷ octets, rest) (octets2, rest2) e)

pub vector24_moves : Moves vector24.reading
unfolding filled_at
vector24_moves input octets rest e =
    let b = bind_ok (counted_at uint24.reading input) filled_or (octets, rest) e in
    let r = filled_is b.0.0 b.0.1 octets rest b.2 in
    rw (← r) (counted_moves uint24.reading uint24_moves input b.0.0 b.0.1 b.1)

pub none_filled : (octets rest : List ℕ) → length octets ≡ 0 → filled_or (octets, rest) ≡ Err InvalidVectorLength
none_filled [] rest none = refl
none_filled (octet ∷ octets) rest none = absurd (omega arith)

pub some_filled : (octets rest : List ℕ) → 1 ≤ length octets → filled_or (octets, rest) ≡ Ok (octets, rest)
some_filled [] rest some = absurd (omega arith)
some_filled (octet ∷ octets) rest some = refl
