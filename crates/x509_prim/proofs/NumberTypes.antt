-- The octets of a number of the number types, and its content.
use Rattle.std.proofs.Common.{◌≡◌, ℕ, zero, suc, ◌+◌, ◌*◌, ◌%◌, ◌^◌, ◌<◌, ◌≤◌, Bool, true, List, [], ◌∷◌, length, fold, Ok, refl, ◌∙◌, inl, inr, arith, pow-suc, mul_comm}
use Rattle.std.specs.Prelude.{◌&&◌, nat_eq, nat_lt, nat_le}
use Rattle.std.specs.Int.{w128, byte_at, bytes_high_first, to_be_bytes}
use Rattle.std.proofs.Math.Nat.{pow-le-pow_right}
use Rattle.std.proofs.Math.Arith.{mod-mul}
use Rattle.std.proofs.lemmas.Bool.{cases_Bool, lt-ltb, le-leb}
use Rattle.std.proofs.lemmas.Bool.Decides.{nat_tests}
use Rattle.x509_der.specs.Natural.{natural_octets, natural_reading, number_after, are_octets, is_shortest}
use Rattle.x509_der.specs.NaturalLaws.{natural_contents_lawful}
use Rattle.x509_prim.specs.Integer.{is_integer, is_unsigned, number, with_sign, without_zeros}
use Rattle.x509_prim.proofs.Naturals.{number-content, is_unsigned-content}

both : (a b : Bool) → a ≡ true → b ≡ true → (a && b) ≡ true
both a b p q = rw (p, q) refl

number_after-fold : (n : ℕ) (octets : List ℕ) → number_after n octets ≡ fold (λ high octet. 256 * high + octet) n octets
number_after-fold n [] = refl
number_after-fold n (octet ∷ octets) = number_after-fold (256 * n + octet) octets

octets_without_zeros : (octets : List ℕ) → are_octets octets ≡ true → are_octets (without_zeros octets) ≡ true
octets_without_zeros [] h = refl
octets_without_zeros (first ∷ []) h = h
octets_without_zeros (first ∷ second ∷ octets) h = elim (cases_Bool (nat_eq first 0)) [
  | inl none ↦ rw none (octets_without_zeros (second ∷ octets) (grind (arith, nat_tests)))
  | inr some ↦ rw some h
]

octets_with_sign : (octets : List ℕ) → are_octets octets ≡ true → are_octets (with_sign octets) ≡ true
octets_with_sign [] h = refl
octets_with_sign (first ∷ octets) h = elim (cases_Bool (nat_le 0x80 first)) [ inl signed ↦ rw signed h | inr unsigned ↦ rw unsigned h ]

length_without_zeros : (octets : List ℕ) → length (without_zeros octets) ≤ length octets
length_without_zeros [] = omega arith
length_without_zeros (first ∷ []) = omega arith
length_without_zeros (first ∷ second ∷ octets) = elim (cases_Bool (nat_eq first 0)) [
  | inl none ↦ rw none (let rest = length_without_zeros (second ∷ octets) in omega arith)
  | inr some ↦ rw some (omega arith)
]

length_with_sign : (octets : List ℕ) → length (with_sign octets) ≤ length octets + 1
length_with_sign [] = omega arith
length_with_sign (first ∷ octets) = elim (cases_Bool (nat_le 0x80 first)) [ inl signed ↦ rw signed (omega arith) | inr unsigned ↦ rw unsigned (omega arith) ]

-- a content has at most one octet more than the octets of the number
pub length_content : (octets : List ℕ) → length (with_sign (without_zeros octets)) ≤ length octets + 1
length_content octets = let a = length_without_zeros octets in let b = length_with_sign (without_zeros octets) in omega arith

shortest : (octets : List ℕ) → are_octets octets ≡ true → is_unsigned octets ≡ true → is_shortest octets ≡ true
unfolding is_unsigned is_integer
shortest [] o h = absurd cc
shortest (a ∷ []) o h = grind (arith, nat_tests)
shortest (a ∷ b ∷ octets) o h = grind (arith, nat_tests)

-- the octets of a number in at most 16 of them give its content
content_is : (octets : List ℕ) (n : ℕ) → are_octets octets ≡ true → 0 < length octets → length octets ≤ 16 → n < 2 ^ 128 → number octets ≡ n → with_sign (without_zeros octets) ≡ natural_octets n
unfolding natural_reading
content_is octets n o some few small is =
    let content : List ℕ = with_sign (without_zeros octets) in
    let all = octets_with_sign (without_zeros octets) (octets_without_zeros octets o) in
    let value : number_after 0 content ≡ n = number_after-fold 0 content ∙ number-content octets ∙ is in
    let fits : length content ≤ 17 = let l = length_content octets in omega arith in
    let good = both (are_octets content) _ all (both (is_shortest content) _ (shortest content all (is_unsigned-content octets some)) (le-leb (length content) 17 fits)) in
    let read : natural_reading (2 ^ 128) content ≡ Ok n = rw (good, value, lt-ltb n (2 ^ 128) small) refl in
    ((natural_contents_lawful {R = λ e. ⊥} (2 ^ 128) (omega arith)).sound content n read).1

-- one more octet in front of the low k octets
one_more : (k n high : ℕ) → (256 * high + byte_at k n) * 256 ^ k + n % 256 ^ k ≡ high * 256 ^ suc k + n % 256 ^ suc k
one_more zero n high = omega arith
one_more (suc k) n high =
    let unit = 256 ^ suc k in
    let wider : 256 ^ suc (suc k) ≡ 256 * unit = pow-suc 256 (suc k) ∙ mul_comm unit 256 in
    let some : 0 < unit = pow-le-pow_right {n = 256} (omega arith) {i = 0} {j = suc k} (omega arith) in
    rw (wider, mod-mul n {m = 256} {c = unit} (omega arith) some) (omega arith)

octets_read : (k n high : ℕ) → fold (λ high octet. 256 * high + octet) high (bytes_high_first k n) ≡ high * 256 ^ k + n % 256 ^ k
octets_read zero n high = omega arith
octets_read (suc k) n high = octets_read k n (256 * high + byte_at k n) ∙ one_more k n high

be_number : (n : ℕ) → n < 2 ^ 128 → number (to_be_bytes w128 n) ≡ n
be_number n small = octets_read 16 n 0 ∙ omega arith

byte_small : (k n : ℕ) → byte_at k n < 256
byte_small zero n = omega arith
byte_small (suc k) n = omega arith

be_octets : (k n : ℕ) → are_octets (bytes_high_first k n) ≡ true
be_octets zero n = refl
be_octets (suc k) n = both (nat_lt (byte_at k n) 256) (are_octets (bytes_high_first k n)) (lt-ltb (byte_at k n) 256 (byte_small k n)) (be_octets k n)

pub number_content : (n : ℕ) → n < 2 ^ 128 → with_sign (without_zeros (to_be_bytes w128 n)) ≡ natural_octets n
number_content n small = content_is (to_be_bytes w128 n) n (be_octets 16 n) (omega arith) (omega arith) small (be_number n small)
