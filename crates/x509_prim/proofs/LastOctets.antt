-- The last octet is that of the highest index.
use Rattle.std.proofs.Common.{◌≡◌, ◌≢◌, ℕ, zero, suc, ◌-◌, ◌*◌, ◌%◌, ◌^◌, ◌<◌, true, nat_eq, List, [], ◌∷◌, length, get_or, refl, sym, ap, ◌∙◌, arith}
use Rattle.std.proofs.lemmas.Bool.{lt-ltb, ne_eqb}
use Rattle.x509_prim.specs.BitString.{parts_of, last_octet, has_octets, is_padded}

pub last_is : (octets : List ℕ) (d : ℕ) → 0 < length octets → last_octet octets ≡ get_or octets (length octets - 1) d
last_is [] d h = absurd (omega arith)
last_is (octet ∷ []) d h = refl
last_is (octet ∷ next ∷ octets) d h =
    let one : suc (length octets) - 1 ≡ length octets = omega arith in
    let two : suc (suc (length octets)) - 1 ≡ suc (length octets) = omega arith in
    let rest : last_octet (next ∷ octets) ≡ get_or (next ∷ octets) (suc (length octets) - 1) d = last_is (next ∷ octets) d (omega arith) in
    rest ∙ ap (λ i. get_or (next ∷ octets) i d) one ∙ sym (ap (λ i. get_or (octet ∷ next ∷ octets) i d) two)

-- ---- powers of two in an octet

one_shifted : (k : ℕ) → k < 8 → 1 * 2 ^ k % 256 ≡ 2 ^ k
one_shifted zero h = refl
one_shifted (suc zero) h = refl
one_shifted (suc (suc zero)) h = refl
one_shifted (suc (suc (suc zero))) h = refl
one_shifted (suc (suc (suc (suc zero)))) h = refl
one_shifted (suc (suc (suc (suc (suc zero))))) h = refl
one_shifted (suc (suc (suc (suc (suc (suc zero)))))) h = refl
one_shifted (suc (suc (suc (suc (suc (suc (suc zero))))))) h = refl
one_shifted (suc (suc (suc (suc (suc (suc (suc (suc k)))))))) h = absurd (omega arith)

has_octets-true : (octets : List ℕ) → 0 < length octets → has_octets octets ≡ true
has_octets-true [] h = absurd (omega arith)
has_octets-true (octet ∷ octets) h = refl

-- the test on the last octet
pub padding_is : (unused : ℕ) (octets : List ℕ) → unused ≢ 0 → unused < 8 → 0 < length octets → nat_eq (get_or octets (length octets - 1) 0 % (1 * 2 ^ unused % 256)) 0 ≡ is_padded (parts_of unused octets)
unfolding is_padded
padding_is unused octets some few h =
    rw (one_shifted unused few, ← last_is octets 0 h, lt-ltb unused 8 few, has_octets-true octets h, ne_eqb unused 0 some) refl
