-- The bits that stand in octets.
use Rattle.std.proofs.Common.{◌≡◌, ℕ, zero, suc, ◌+◌, ◌*◌, ◌/◌, ◌%◌, ◌^◌, ◌<◌, ◌≤◌, Bool, true, false, ◌&&◌, nat_eq, nat_lt, List, [], ◌∷◌, ◌++◌, length, take, drop, replicate, fold, refl, sym, ap, ◌∙◌, append_assoc, length-append, inl, inr, arith}
use Rattle.std.specs.List.{flat_map, All}
use Rattle.std.proofs.lemmas.Bool.{and_parts, or_right, cases_Bool, eqb-true, eqb-false, ne_eqb, lt-ltb, ltb-true}
use Rattle.std.proofs.lemmas.List.{append_cancel_right, append-nil, length-replicate, take_at, drop_at, drop-append-le}
use Rattle.std.proofs.lemmas.List.Elements.{All-nil, All-cons, All-head, All-tail}
use Rattle.x509_prim.specs.BitString.{BitParts, parts_of, is_one, octet_bits, HasBits, last_octet, has_octets, is_padded}
use Rattle.x509_prim.specs.Below.{all_below, all_below-at}

abbrev pub AreOctets : List ℕ → Type 0
AreOctets octets = All (λ octet. octet < 256) octets

-- ---- one octet

abbrev digit : Bool → ℕ
digit true = 1
digit false = 0

abbrev bits_value : List Bool → ℕ
bits_value bits = fold (λ high bit. 2 * high + digit bit) 0 bits

all_values : all_below (λ octet. nat_eq (bits_value (octet_bits octet)) octet) 256 ≡ true
unfolding octet_bits
all_values = refl

octet_value : (octet : ℕ) → octet < 256 → bits_value (octet_bits octet) ≡ octet
octet_value octet small = eqb-true (bits_value (octet_bits octet)) octet (all_below-at (λ o. nat_eq (bits_value (octet_bits o)) o) 256 all_values octet small)

-- an octet is known by its bits
same_octet : (a b : ℕ) → a < 256 → b < 256 → octet_bits a ≡ octet_bits b → a ≡ b
same_octet a b low small e = sym (octet_value a low) ∙ ap bits_value e ∙ octet_value b small

digit-one : (bit : Bool) → nat_eq (digit bit) 1 ≡ bit
digit-one true = refl
digit-one false = refl

digit-small : (bit : Bool) → digit bit < 2
digit-small true = omega arith
digit-small false = omega arith

place_7 : (a b c d e f g h : ℕ) → a < 2 → b < 2 → c < 2 → d < 2 → e < 2 → f < 2 → g < 2 → h < 2 → (128 * a + 64 * b + 32 * c + 16 * d + 8 * e + 4 * f + 2 * g + h) / 128 % 2 ≡ a
place_7 a b c d e f g h pa pb pc pd pe pf pg ph = omega arith

place_6 : (a b c d e f g h : ℕ) → a < 2 → b < 2 → c < 2 → d < 2 → e < 2 → f < 2 → g < 2 → h < 2 → (128 * a + 64 * b + 32 * c + 16 * d + 8 * e + 4 * f + 2 * g + h) / 64 % 2 ≡ b
place_6 a b c d e f g h pa pb pc pd pe pf pg ph = omega arith

place_5 : (a b c d e f g h : ℕ) → a < 2 → b < 2 → c < 2 → d < 2 → e < 2 → f < 2 → g < 2 → h < 2 → (128 * a + 64 * b + 32 * c + 16 * d + 8 * e + 4 * f + 2 * g + h) / 32 % 2 ≡ c
place_5 a b c d e f g h pa pb pc pd pe pf pg ph = omega arith

place_4 : (a b c d e f g h : ℕ) → a < 2 → b < 2 → c < 2 → d < 2 → e < 2 → f < 2 → g < 2 → h < 2 → (128 * a + 64 * b + 32 * c + 16 * d + 8 * e + 4 * f + 2 * g + h) / 16 % 2 ≡ d
place_4 a b c d e f g h pa pb pc pd pe pf pg ph = omega arith

place_3 : (a b c d e f g h : ℕ) → a < 2 → b < 2 → c < 2 → d < 2 → e < 2 → f < 2 → g < 2 → h < 2 → (128 * a + 64 * b + 32 * c + 16 * d + 8 * e + 4 * f + 2 * g + h) / 8 % 2 ≡ e
place_3 a b c d e f g h pa pb pc pd pe pf pg ph = omega arith

place_2 : (a b c d e f g h : ℕ) → a < 2 → b < 2 → c < 2 → d < 2 → e < 2 → f < 2 → g < 2 → h < 2 → (128 * a + 64 * b + 32 * c + 16 * d + 8 * e + 4 * f + 2 * g + h) / 4 % 2 ≡ f
place_2 a b c d e f g h pa pb pc pd pe pf pg ph = omega arith

place_1 : (a b c d e f g h : ℕ) → a < 2 → b < 2 → c < 2 → d < 2 → e < 2 → f < 2 → g < 2 → h < 2 → (128 * a + 64 * b + 32 * c + 16 * d + 8 * e + 4 * f + 2 * g + h) / 2 % 2 ≡ g
place_1 a b c d e f g h pa pb pc pd pe pf pg ph = omega arith

place_0 : (a b c d e f g h : ℕ) → a < 2 → b < 2 → c < 2 → d < 2 → e < 2 → f < 2 → g < 2 → h < 2 → (128 * a + 64 * b + 32 * c + 16 * d + 8 * e + 4 * f + 2 * g + h) / 1 % 2 ≡ h
place_0 a b c d e f g h pa pb pc pd pe pf pg ph = omega arith

abbrev octet_of_bits : Bool → Bool → Bool → Bool → Bool → Bool → Bool → Bool → ℕ
octet_of_bits a b c d e f g h = 128 * digit a + 64 * digit b + 32 * digit c + 16 * digit d + 8 * digit e + 4 * digit f + 2 * digit g + digit h

octet_of_bits-small : (a b c d e f g h : Bool) → octet_of_bits a b c d e f g h < 256
octet_of_bits-small a b c d e f g h = omega (arith, digit-small a, digit-small b, digit-small c, digit-small d, digit-small e, digit-small f, digit-small g, digit-small h)

bits_again : (a b c d e f g h : Bool) → octet_bits (octet_of_bits a b c d e f g h) ≡ a ∷ b ∷ c ∷ d ∷ e ∷ f ∷ g ∷ h ∷ []
unfolding octet_bits
bits_again a b c d e f g h =
    let e7 : is_one (octet_of_bits a b c d e f g h) 7 ≡ a = ap (λ n. nat_eq n 1) (place_7 (digit a) (digit b) (digit c) (digit d) (digit e) (digit f) (digit g) (digit h) (digit-small a) (digit-small b) (digit-small c) (digit-small d) (digit-small e) (digit-small f) (digit-small g) (digit-small h)) ∙ digit-one a in
    let e6 : is_one (octet_of_bits a b c d e f g h) 6 ≡ b = ap (λ n. nat_eq n 1) (place_6 (digit a) (digit b) (digit c) (digit d) (digit e) (digit f) (digit g) (digit h) (digit-small a) (digit-small b) (digit-small c) (digit-small d) (digit-small e) (digit-small f) (digit-small g) (digit-small h)) ∙ digit-one b in
    let e5 : is_one (octet_of_bits a b c d e f g h) 5 ≡ c = ap (λ n. nat_eq n 1) (place_5 (digit a) (digit b) (digit c) (digit d) (digit e) (digit f) (digit g) (digit h) (digit-small a) (digit-small b) (digit-small c) (digit-small d) (digit-small e) (digit-small f) (digit-small g) (digit-small h)) ∙ digit-one c in
    let e4 : is_one (octet_of_bits a b c d e f g h) 4 ≡ d = ap (λ n. nat_eq n 1) (place_4 (digit a) (digit b) (digit c) (digit d) (digit e) (digit f) (digit g) (digit h) (digit-small a) (digit-small b) (digit-small c) (digit-small d) (digit-small e) (digit-small f) (digit-small g) (digit-small h)) ∙ digit-one d in
    let e3 : is_one (octet_of_bits a b c d e f g h) 3 ≡ e = ap (λ n. nat_eq n 1) (place_3 (digit a) (digit b) (digit c) (digit d) (digit e) (digit f) (digit g) (digit h) (digit-small a) (digit-small b) (digit-small c) (digit-small d) (digit-small e) (digit-small f) (digit-small g) (digit-small h)) ∙ digit-one e in
    let e2 : is_one (octet_of_bits a b c d e f g h) 2 ≡ f = ap (λ n. nat_eq n 1) (place_2 (digit a) (digit b) (digit c) (digit d) (digit e) (digit f) (digit g) (digit h) (digit-small a) (digit-small b) (digit-small c) (digit-small d) (digit-small e) (digit-small f) (digit-small g) (digit-small h)) ∙ digit-one f in
    let e1 : is_one (octet_of_bits a b c d e f g h) 1 ≡ g = ap (λ n. nat_eq n 1) (place_1 (digit a) (digit b) (digit c) (digit d) (digit e) (digit f) (digit g) (digit h) (digit-small a) (digit-small b) (digit-small c) (digit-small d) (digit-small e) (digit-small f) (digit-small g) (digit-small h)) ∙ digit-one g in
    let e0 : is_one (octet_of_bits a b c d e f g h) 0 ≡ h = ap (λ n. nat_eq n 1) (place_0 (digit a) (digit b) (digit c) (digit d) (digit e) (digit f) (digit g) (digit h) (digit-small a) (digit-small b) (digit-small c) (digit-small d) (digit-small e) (digit-small f) (digit-small g) (digit-small h)) ∙ digit-one h in
    cc

-- ---- octets in a row

length-bits : (octets : List ℕ) → length (flat_map octet_bits octets) ≡ 8 * length octets
unfolding octet_bits
length-bits [] = refl
length-bits (octet ∷ octets) = omega (arith, length-bits octets, length-append (octet_bits octet) (flat_map octet_bits octets))

same_front : (c d x y : List Bool) → length c ≡ length d → c ++ x ≡ d ++ y → (c ≡ d) × (x ≡ y)
same_front c d x y len e =
    let front = ap (take (length c)) e in
    let back = ap (drop (length c)) e in
    (sym (take_at c x (length c) refl) ∙ front ∙ take_at d y (length c) (sym len), sym (drop_at c x (length c) refl) ∙ back ∙ drop_at d y (length c) (sym len))

bits_length : (octet : ℕ) → length (octet_bits octet) ≡ 8
unfolding octet_bits
bits_length octet = refl

same_octets : (xs ys : List ℕ) → AreOctets xs → AreOctets ys → flat_map octet_bits xs ≡ flat_map octet_bits ys → xs ≡ ys
same_octets [] [] p q e = refl
same_octets [] (y ∷ ys) p q e = absurd (let l = ap length e in omega (arith, l, length-bits (y ∷ ys)))
same_octets (x ∷ xs) [] p q e = absurd (let l = ap length e in omega (arith, l, length-bits (x ∷ xs)))
same_octets (x ∷ xs) (y ∷ ys) p q e =
    let small : ℕ → Type 0 = λ octet. octet < 256 in
    let parts = same_front (octet_bits x) (octet_bits y) (flat_map octet_bits xs) (flat_map octet_bits ys) (bits_length x ∙ sym (bits_length y)) e in
    let head : x ≡ y = same_octet x y (All-head small x xs p) (All-head small y ys q) parts.0 in
    let tail : xs ≡ ys = same_octets xs ys (All-tail small x xs p) (All-tail small y ys q) parts.1 in
    rw (head, tail) refl

-- ---- contents and bits

-- a content has one list of bits
pub one_bits : (parts : BitParts) (bits others : List Bool) → HasBits bits parts → HasBits others parts → bits ≡ others
one_bits parts bits others h k = append_cancel_right bits others (replicate parts.unused false) (sym h.stand ∙ k.stand)

bits_count : (bits : List Bool) (parts : BitParts) → HasBits bits parts → 8 * length parts.octets ≡ length bits + parts.unused
bits_count bits parts h =
    let e = ap length h.stand in
    omega (arith, e, length-bits parts.octets, length-append bits (replicate parts.unused false), length-replicate {A = Bool} parts.unused false)

-- bits have one content
pub one_parts : (bits : List Bool) (parts others : BitParts) → AreOctets parts.octets → AreOctets others.octets → HasBits bits parts → HasBits bits others → parts ≡ others
one_parts bits parts others p q h k =
    let few = h.few in
    let little = k.few in
    let unused : parts.unused ≡ others.unused = omega (arith, few, little, bits_count bits parts h, bits_count bits others k) in
    let octets : parts.octets ≡ others.octets = same_octets parts.octets others.octets p q (h.stand ∙ ap (λ n. bits ++ replicate n false) unused ∙ sym k.stand) in
    λ i. record { unused = unused i; octets = octets i }

-- ---- each list of bits has a content

pub record Packed (bits : List Bool) : Type 0 where
  pub parts : BitParts
  pub octets : AreOctets parts.octets
  pub bits_stand : HasBits bits parts

one_packed : (unused : ℕ) (bits : List Bool) (a b c d e f g h : Bool) → unused < 8 → a ∷ b ∷ c ∷ d ∷ e ∷ f ∷ g ∷ h ∷ [] ≡ bits ++ replicate unused false → Packed bits
one_packed unused bits a b c d e f g h few is =
    let octet : ℕ = octet_of_bits a b c d e f g h in
    record {
      parts = parts_of unused (octet ∷ []);
      octets = All-cons (λ (o : ℕ). o < 256) octet [] (octet_of_bits-small a b c d e f g h) (All-nil (λ (o : ℕ). o < 256));
      bits_stand = record { few = few; stand = append-nil (octet_bits octet) ∙ bits_again a b c d e f g h ∙ is };
    }

more_packed : (a b c d e f g h : Bool) (bits : List Bool) → Packed bits → Packed (a ∷ b ∷ c ∷ d ∷ e ∷ f ∷ g ∷ h ∷ bits)
more_packed a b c d e f g h bits p =
    let octet : ℕ = octet_of_bits a b c d e f g h in
    record {
      parts = parts_of p.parts.unused (octet ∷ p.parts.octets);
      octets = All-cons (λ (o : ℕ). o < 256) octet p.parts.octets (octet_of_bits-small a b c d e f g h) p.octets;
      bits_stand = record { few = p.bits_stand.few; stand = rw (bits_again a b c d e f g h, p.bits_stand.stand) refl };
    }

pub packed : (bits : List Bool) → Packed bits
packed [] = record { parts = parts_of 0 []; octets = All-nil (λ (o : ℕ). o < 256); bits_stand = record { few = omega arith; stand = refl } }
packed (a ∷ []) = one_packed 7 (a ∷ []) a false false false false false false false (omega arith) refl
packed (a ∷ b ∷ []) = one_packed 6 (a ∷ b ∷ []) a b false false false false false false (omega arith) refl
packed (a ∷ b ∷ c ∷ []) = one_packed 5 (a ∷ b ∷ c ∷ []) a b c false false false false false (omega arith) refl
packed (a ∷ b ∷ c ∷ d ∷ []) = one_packed 4 (a ∷ b ∷ c ∷ d ∷ []) a b c d false false false false (omega arith) refl
packed (a ∷ b ∷ c ∷ d ∷ e ∷ []) = one_packed 3 (a ∷ b ∷ c ∷ d ∷ e ∷ []) a b c d e false false false (omega arith) refl
packed (a ∷ b ∷ c ∷ d ∷ e ∷ f ∷ []) = one_packed 2 (a ∷ b ∷ c ∷ d ∷ e ∷ f ∷ []) a b c d e f false false (omega arith) refl
packed (a ∷ b ∷ c ∷ d ∷ e ∷ f ∷ g ∷ []) = one_packed 1 (a ∷ b ∷ c ∷ d ∷ e ∷ f ∷ g ∷ []) a b c d e f g false (omega arith) refl
packed (a ∷ b ∷ c ∷ d ∷ e ∷ f ∷ g ∷ h ∷ bits) = more_packed a b c d e f g h bits (packed bits)

-- ---- padded contents are those of bits

low_zeros : (unused octet : ℕ) (bits : List Bool) → unused < 8 → octet_bits octet ≡ bits ++ replicate unused false → length bits + unused ≡ 8 → octet % 2 ^ unused ≡ 0
unfolding octet_bits
low_zeros zero octet bits few e len = omega arith
low_zeros (suc zero) octet bits few e len =
    let dropped = ap (drop 7) e ∙ drop_at bits (replicate 1 false) 7 (omega arith) in
    let z0 : is_one octet 0 ≡ false = cc in
    let n0 = eqb-false (octet / 1 % 2) 1 z0 in
    omega arith
low_zeros (suc (suc zero)) octet bits few e len =
    let dropped = ap (drop 6) e ∙ drop_at bits (replicate 2 false) 6 (omega arith) in
    let z0 : is_one octet 0 ≡ false = cc in
    let n0 = eqb-false (octet / 1 % 2) 1 z0 in
    let z1 : is_one octet 1 ≡ false = cc in
    let n1 = eqb-false (octet / 2 % 2) 1 z1 in
    omega arith
low_zeros (suc (suc (suc zero))) octet bits few e len =
    let dropped = ap (drop 5) e ∙ drop_at bits (replicate 3 false) 5 (omega arith) in
    let z0 : is_one octet 0 ≡ false = cc in
    let n0 = eqb-false (octet / 1 % 2) 1 z0 in
    let z1 : is_one octet 1 ≡ false = cc in
    let n1 = eqb-false (octet / 2 % 2) 1 z1 in
    let z2 : is_one octet 2 ≡ false = cc in
    let n2 = eqb-false (octet / 4 % 2) 1 z2 in
    omega arith
low_zeros (suc (suc (suc (suc zero)))) octet bits few e len =
    let dropped = ap (drop 4) e ∙ drop_at bits (replicate 4 false) 4 (omega arith) in
    let z0 : is_one octet 0 ≡ false = cc in
    let n0 = eqb-false (octet / 1 % 2) 1 z0 in
    let z1 : is_one octet 1 ≡ false = cc in
    let n1 = eqb-false (octet / 2 % 2) 1 z1 in
    let z2 : is_one octet 2 ≡ false = cc in
    let n2 = eqb-false (octet / 4 % 2) 1 z2 in
    let z3 : is_one octet 3 ≡ false = cc in
    let n3 = eqb-false (octet / 8 % 2) 1 z3 in
    omega arith
low_zeros (suc (suc (suc (suc (suc zero))))) octet bits few e len =
    let dropped = ap (drop 3) e ∙ drop_at bits (replicate 5 false) 3 (omega arith) in
    let z0 : is_one octet 0 ≡ false = cc in
    let n0 = eqb-false (octet / 1 % 2) 1 z0 in
    let z1 : is_one octet 1 ≡ false = cc in
    let n1 = eqb-false (octet / 2 % 2) 1 z1 in
    let z2 : is_one octet 2 ≡ false = cc in
    let n2 = eqb-false (octet / 4 % 2) 1 z2 in
    let z3 : is_one octet 3 ≡ false = cc in
    let n3 = eqb-false (octet / 8 % 2) 1 z3 in
    let z4 : is_one octet 4 ≡ false = cc in
    let n4 = eqb-false (octet / 16 % 2) 1 z4 in
    omega arith
low_zeros (suc (suc (suc (suc (suc (suc zero)))))) octet bits few e len =
    let dropped = ap (drop 2) e ∙ drop_at bits (replicate 6 false) 2 (omega arith) in
    let z0 : is_one octet 0 ≡ false = cc in
    let n0 = eqb-false (octet / 1 % 2) 1 z0 in
    let z1 : is_one octet 1 ≡ false = cc in
    let n1 = eqb-false (octet / 2 % 2) 1 z1 in
    let z2 : is_one octet 2 ≡ false = cc in
    let n2 = eqb-false (octet / 4 % 2) 1 z2 in
    let z3 : is_one octet 3 ≡ false = cc in
    let n3 = eqb-false (octet / 8 % 2) 1 z3 in
    let z4 : is_one octet 4 ≡ false = cc in
    let n4 = eqb-false (octet / 16 % 2) 1 z4 in
    let z5 : is_one octet 5 ≡ false = cc in
    let n5 = eqb-false (octet / 32 % 2) 1 z5 in
    omega arith
low_zeros (suc (suc (suc (suc (suc (suc (suc zero))))))) octet bits few e len =
    let dropped = ap (drop 1) e ∙ drop_at bits (replicate 7 false) 1 (omega arith) in
    let z0 : is_one octet 0 ≡ false = cc in
    let n0 = eqb-false (octet / 1 % 2) 1 z0 in
    let z1 : is_one octet 1 ≡ false = cc in
    let n1 = eqb-false (octet / 2 % 2) 1 z1 in
    let z2 : is_one octet 2 ≡ false = cc in
    let n2 = eqb-false (octet / 4 % 2) 1 z2 in
    let z3 : is_one octet 3 ≡ false = cc in
    let n3 = eqb-false (octet / 8 % 2) 1 z3 in
    let z4 : is_one octet 4 ≡ false = cc in
    let n4 = eqb-false (octet / 16 % 2) 1 z4 in
    let z5 : is_one octet 5 ≡ false = cc in
    let n5 = eqb-false (octet / 32 % 2) 1 z5 in
    let z6 : is_one octet 6 ≡ false = cc in
    let n6 = eqb-false (octet / 64 % 2) 1 z6 in
    omega arith
low_zeros (suc (suc (suc (suc (suc (suc (suc (suc n)))))))) octet bits few e len = absurd (omega arith)

padded_octet : (unused octet : ℕ) → unused < 8 → octet % 2 ^ unused ≡ 0 → (bits : List Bool) × (octet_bits octet ≡ bits ++ replicate unused false)
unfolding octet_bits
padded_octet zero octet few h = (octet_bits octet, sym (append-nil (octet_bits octet)))
padded_octet (suc zero) octet few h =
    let z0 : is_one octet 0 ≡ false = ne_eqb (octet / 1 % 2) 1 (λ e. omega arith) in
    (is_one octet 7 ∷ is_one octet 6 ∷ is_one octet 5 ∷ is_one octet 4 ∷ is_one octet 3 ∷ is_one octet 2 ∷ is_one octet 1 ∷ [], cc)
padded_octet (suc (suc zero)) octet few h =
    let z0 : is_one octet 0 ≡ false = ne_eqb (octet / 1 % 2) 1 (λ e. omega arith) in
    let z1 : is_one octet 1 ≡ false = ne_eqb (octet / 2 % 2) 1 (λ e. omega arith) in
    (is_one octet 7 ∷ is_one octet 6 ∷ is_one octet 5 ∷ is_one octet 4 ∷ is_one octet 3 ∷ is_one octet 2 ∷ [], cc)
padded_octet (suc (suc (suc zero))) octet few h =
    let z0 : is_one octet 0 ≡ false = ne_eqb (octet / 1 % 2) 1 (λ e. omega arith) in
    let z1 : is_one octet 1 ≡ false = ne_eqb (octet / 2 % 2) 1 (λ e. omega arith) in
    let z2 : is_one octet 2 ≡ false = ne_eqb (octet / 4 % 2) 1 (λ e. omega arith) in
    (is_one octet 7 ∷ is_one octet 6 ∷ is_one octet 5 ∷ is_one octet 4 ∷ is_one octet 3 ∷ [], cc)
padded_octet (suc (suc (suc (suc zero)))) octet few h =
    let z0 : is_one octet 0 ≡ false = ne_eqb (octet / 1 % 2) 1 (λ e. omega arith) in
    let z1 : is_one octet 1 ≡ false = ne_eqb (octet / 2 % 2) 1 (λ e. omega arith) in
    let z2 : is_one octet 2 ≡ false = ne_eqb (octet / 4 % 2) 1 (λ e. omega arith) in
    let z3 : is_one octet 3 ≡ false = ne_eqb (octet / 8 % 2) 1 (λ e. omega arith) in
    (is_one octet 7 ∷ is_one octet 6 ∷ is_one octet 5 ∷ is_one octet 4 ∷ [], cc)
padded_octet (suc (suc (suc (suc (suc zero))))) octet few h =
    let z0 : is_one octet 0 ≡ false = ne_eqb (octet / 1 % 2) 1 (λ e. omega arith) in
    let z1 : is_one octet 1 ≡ false = ne_eqb (octet / 2 % 2) 1 (λ e. omega arith) in
    let z2 : is_one octet 2 ≡ false = ne_eqb (octet / 4 % 2) 1 (λ e. omega arith) in
    let z3 : is_one octet 3 ≡ false = ne_eqb (octet / 8 % 2) 1 (λ e. omega arith) in
    let z4 : is_one octet 4 ≡ false = ne_eqb (octet / 16 % 2) 1 (λ e. omega arith) in
    (is_one octet 7 ∷ is_one octet 6 ∷ is_one octet 5 ∷ [], cc)
padded_octet (suc (suc (suc (suc (suc (suc zero)))))) octet few h =
    let z0 : is_one octet 0 ≡ false = ne_eqb (octet / 1 % 2) 1 (λ e. omega arith) in
    let z1 : is_one octet 1 ≡ false = ne_eqb (octet / 2 % 2) 1 (λ e. omega arith) in
    let z2 : is_one octet 2 ≡ false = ne_eqb (octet / 4 % 2) 1 (λ e. omega arith) in
    let z3 : is_one octet 3 ≡ false = ne_eqb (octet / 8 % 2) 1 (λ e. omega arith) in
    let z4 : is_one octet 4 ≡ false = ne_eqb (octet / 16 % 2) 1 (λ e. omega arith) in
    let z5 : is_one octet 5 ≡ false = ne_eqb (octet / 32 % 2) 1 (λ e. omega arith) in
    (is_one octet 7 ∷ is_one octet 6 ∷ [], cc)
padded_octet (suc (suc (suc (suc (suc (suc (suc zero))))))) octet few h =
    let z0 : is_one octet 0 ≡ false = ne_eqb (octet / 1 % 2) 1 (λ e. omega arith) in
    let z1 : is_one octet 1 ≡ false = ne_eqb (octet / 2 % 2) 1 (λ e. omega arith) in
    let z2 : is_one octet 2 ≡ false = ne_eqb (octet / 4 % 2) 1 (λ e. omega arith) in
    let z3 : is_one octet 3 ≡ false = ne_eqb (octet / 8 % 2) 1 (λ e. omega arith) in
    let z4 : is_one octet 4 ≡ false = ne_eqb (octet / 16 % 2) 1 (λ e. omega arith) in
    let z5 : is_one octet 5 ≡ false = ne_eqb (octet / 32 % 2) 1 (λ e. omega arith) in
    let z6 : is_one octet 6 ≡ false = ne_eqb (octet / 64 % 2) 1 (λ e. omega arith) in
    (is_one octet 7 ∷ [], cc)
padded_octet (suc (suc (suc (suc (suc (suc (suc (suc n)))))))) octet few h = absurd (omega arith)

padded_row : (unused : ℕ) (octets : List ℕ) → unused < 8 → has_octets octets ≡ true → last_octet octets % 2 ^ unused ≡ 0 → (bits : List Bool) × (flat_map octet_bits octets ≡ bits ++ replicate unused false)
padded_row unused [] few some h = absurd cc
padded_row unused (octet ∷ []) few some h = let p = padded_octet unused octet few h in (p.0, append-nil (octet_bits octet) ∙ p.1)
padded_row unused (octet ∷ next ∷ octets) few some h =
    let p = padded_row unused (next ∷ octets) few refl h in
    (octet_bits octet ++ p.0, ap (λ (x : List Bool). octet_bits octet ++ x) p.1 ∙ sym (append_assoc (octet_bits octet) p.0 (replicate unused false)))

pub padded_bits : (parts : BitParts) → is_padded parts ≡ true → (bits : List Bool) × HasBits bits parts
unfolding is_padded
padded_bits parts h = elim (cases_Bool (nat_eq parts.unused 0)) [
  | inl none ↦ (let is : parts.unused ≡ 0 = eqb-true parts.unused 0 none in
      (flat_map octet_bits parts.octets, record { few = omega arith; stand = sym (append-nil (flat_map octet_bits parts.octets)) ∙ ap (λ n. flat_map octet_bits parts.octets ++ replicate n false) (sym is) }))
  | inr some ↦ (let k = rw some at h in
      let a = and_parts (nat_lt parts.unused 8) (has_octets parts.octets && nat_eq (last_octet parts.octets % 2 ^ parts.unused) 0) k in
      let b = and_parts (has_octets parts.octets) (nat_eq (last_octet parts.octets % 2 ^ parts.unused) 0) a.1 in
      let few = ltb-true parts.unused 8 a.0 in
      let p = padded_row parts.unused parts.octets few b.0 (eqb-true (last_octet parts.octets % 2 ^ parts.unused) 0 b.1) in
      (p.0, record { few = few; stand = p.1 }))
]

row_padded : (unused : ℕ) (octets : List ℕ) (bits : List Bool) → 0 < unused → unused < 8 → flat_map octet_bits octets ≡ bits ++ replicate unused false → (has_octets octets ≡ true) × (last_octet octets % 2 ^ unused ≡ 0)
row_padded unused [] bits some few e = absurd (let l = ap length e in omega (arith, l, length-append bits (replicate unused false), length-replicate {A = Bool} unused false))
row_padded unused (octet ∷ []) bits some few e =
    let k = sym (append-nil (octet_bits octet)) ∙ e in
    let l = ap length k in
    (refl, low_zeros unused octet bits few k (omega (arith, l, bits_length octet, length-append bits (replicate unused false), length-replicate {A = Bool} unused false)))
row_padded unused (octet ∷ next ∷ octets) bits some few e =
    let l = ap length e in
    let many : 8 ≤ length bits = omega (arith, l, length-bits (octet ∷ next ∷ octets), length-append bits (replicate unused false), length-replicate {A = Bool} unused false) in
    let rest : flat_map octet_bits (next ∷ octets) ≡ drop 8 bits ++ replicate unused false =
    sym (drop_at (octet_bits octet) (flat_map octet_bits (next ∷ octets)) 8 (bits_length octet)) ∙ ap (drop 8) e ∙ drop-append-le 8 bits (replicate unused false) many in
    (refl, (row_padded unused (next ∷ octets) (drop 8 bits) some few rest).1)

pub bits_padded : (bits : List Bool) (parts : BitParts) → HasBits bits parts → is_padded parts ≡ true
unfolding is_padded
bits_padded bits parts h = elim (cases_Bool (nat_eq parts.unused 0)) [
  | inl none ↦ rw none refl
  | inr some ↦ (let ne = eqb-false parts.unused 0 some in
      let r = row_padded parts.unused parts.octets bits (omega arith) h.few h.stand in
      rw (lt-ltb parts.unused 8 h.few, r.0, r.1) (or_right (nat_eq parts.unused 0) true refl))
]
