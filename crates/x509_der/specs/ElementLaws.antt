-- What is read as an element is spelled so, and what is spelled so is read, whatever follows it.
use Rattle.std.proofs.Common.{◌≡◌, ℕ, ◌/◌, ◌%◌, ◌<◌, ◌≤◌, true, false, ltb, List, [], ◌∷◌, ◌++◌, length, take, drop, Ok, Err, refl, sym, ap, subst, append_assoc, arith, inl, inr}
use Rattle.std.proofs.lemmas.Bool.{cases_lt, ltb-false, lt-ltb, le-ltb}
use Rattle.std.proofs.lemmas.Bool.Decides.{nat_tests}
use Rattle.std.proofs.lemmas.List.{take_at, drop_at, take-append-drop, length-append, length-take, append-nil}
use Rattle.x509_der.specs.declared.error.ErrorKind.{ErrorKind}
use Rattle.x509_der.specs.declared.error.ErrorKind.TheVariants.{Malformed}
use Rattle.x509_der.specs.Outcome.{◌>>=◌}
use Rattle.x509_der.specs.OutcomeLaws.{bind_ok, bind_err, guard_ok, test_ok, test_err, ok_is}
use Rattle.x509_der.specs.Element.{length_octets, element, is_identifier}
use Rattle.x509_der.specs.ElementReading.{Piece, piece_at, length_at, one_digit, two_digits, three_digits, four_digits, content_at}

-- ---- lengths

one_digit-sound : (bytes : List ℕ) (n : ℕ) (rest : List ℕ) → one_digit bytes ≡ Ok (n, rest) → 129 ∷ bytes ≡ length_octets n ++ rest
unfolding one_digit length_octets
one_digit-sound [] n rest e = absurd cc
one_digit-sound (a ∷ bytes) n rest e = grind (arith, nat_tests)

two_digits-sound : (bytes : List ℕ) (n : ℕ) (rest : List ℕ) → two_digits bytes ≡ Ok (n, rest) → 130 ∷ bytes ≡ length_octets n ++ rest
unfolding two_digits length_octets
two_digits-sound [] n rest e = absurd cc
two_digits-sound (a ∷ []) n rest e = absurd cc
two_digits-sound (a ∷ b ∷ bytes) n rest e = grind (arith, nat_tests)

three_digits-sound : (bytes : List ℕ) (n : ℕ) (rest : List ℕ) → three_digits bytes ≡ Ok (n, rest) → 131 ∷ bytes ≡ length_octets n ++ rest
unfolding three_digits length_octets
three_digits-sound [] n rest e = absurd cc
three_digits-sound (a ∷ []) n rest e = absurd cc
three_digits-sound (a ∷ b ∷ []) n rest e = absurd cc
three_digits-sound (a ∷ b ∷ c ∷ bytes) n rest e = grind (arith, nat_tests)

four_digits-sound : (bytes : List ℕ) (n : ℕ) (rest : List ℕ) → four_digits bytes ≡ Ok (n, rest) → 132 ∷ bytes ≡ length_octets n ++ rest
unfolding four_digits length_octets
four_digits-sound [] n rest e = absurd cc
four_digits-sound (a ∷ []) n rest e = absurd cc
four_digits-sound (a ∷ b ∷ []) n rest e = absurd cc
four_digits-sound (a ∷ b ∷ c ∷ []) n rest e = absurd cc
four_digits-sound (a ∷ b ∷ c ∷ d ∷ bytes) n rest e = grind (arith, nat_tests)

length_short : (k : ℕ) (bytes : List ℕ) (n : ℕ) (rest : List ℕ) → k < 128 → length_at (k ∷ bytes) ≡ Ok (n, rest) → k ∷ bytes ≡ length_octets n ++ rest
unfolding length_at length_octets
length_short k bytes n rest lt e = grind (arith, nat_tests)

length_long : (k : ℕ) (bytes : List ℕ) (n : ℕ) (rest : List ℕ) → 128 ≤ k → length_at (k ∷ bytes) ≡ Ok (n, rest) → k ∷ bytes ≡ length_octets n ++ rest
unfolding length_at
length_long k bytes n rest le e = grind (arith, nat_tests, one_digit-sound, two_digits-sound, three_digits-sound, four_digits-sound)

pub length_at-sound : (bytes : List ℕ) (n : ℕ) (rest : List ℕ) → length_at bytes ≡ Ok (n, rest) → bytes ≡ length_octets n ++ rest
unfolding length_at
length_at-sound [] n rest e = absurd cc
length_at-sound (k ∷ bytes) n rest e = elim (cases_lt k 128) [ inl lt ↦ length_short k bytes n rest lt e | inr le ↦ length_long k bytes n rest le e ]

short_again : (n : ℕ) (rest : List ℕ) → n < 128 → length_at (n ∷ rest) ≡ Ok (n, rest)
unfolding length_at
short_again n rest lt = grind (arith, nat_tests)

one_again : (n : ℕ) (rest : List ℕ) → 128 ≤ n → n < 256 → length_at (129 ∷ n ∷ rest) ≡ Ok (n, rest)
unfolding one_digit length_at
one_again n rest le lt = grind (arith, nat_tests)

two_again : (n : ℕ) (rest : List ℕ) → 256 ≤ n → n < 65536 → length_at (130 ∷ (n / 256) ∷ (n % 256) ∷ rest) ≡ Ok (n, rest)
unfolding two_digits length_at
two_again n rest le lt = grind (arith, nat_tests)

three_again : (n : ℕ) (rest : List ℕ) → 65536 ≤ n → n < 16777216 → length_at (131 ∷ (n / 65536) ∷ (n / 256 % 256) ∷ (n % 256) ∷ rest) ≡ Ok (n, rest)
unfolding three_digits length_at
three_again n rest le lt = grind (arith, nat_tests)

four_again : (n : ℕ) (rest : List ℕ) → 16777216 ≤ n → length_at (132 ∷ (n / 16777216) ∷ (n / 65536 % 256) ∷ (n / 256 % 256) ∷ (n % 256) ∷ rest) ≡ Ok (n, rest)
unfolding four_digits length_at
four_again n rest le = grind (arith, nat_tests)

-- length octets are read as their number, whatever follows them
pub length_at-length_octets : (n : ℕ) (rest : List ℕ) → length_at (length_octets n ++ rest) ≡ Ok (n, rest)
unfolding length_octets
length_at-length_octets n rest =
    elim (cases_lt n 128) [
      | inl lt ↦ rw (lt-ltb n 128 lt) (short_again n rest lt)
      | inr a ↦ rw (le-ltb n 128 a) (elim (cases_lt n 256) [
        | inl lt ↦ rw (lt-ltb n 256 lt) (one_again n rest a lt)
        | inr b ↦ rw (le-ltb n 256 b) (elim (cases_lt n 65536) [
          | inl lt ↦ rw (lt-ltb n 65536 lt) (two_again n rest b lt)
          | inr c ↦ rw (le-ltb n 65536 c) (elim (cases_lt n 16777216) [
            | inl lt ↦ rw (lt-ltb n 16777216 lt) (three_again n rest c lt)
            | inr d ↦ rw (le-ltb n 16777216 d) (four_again n rest d)
          ])
        ])
      ])
    ]

length_at-refused : (bytes : List ℕ) (e : ErrorKind) → length_at bytes ≡ Err e → e ≡ Malformed
unfolding length_at one_digit two_digits three_digits four_digits
length_at-refused [] e h = cc
length_at-refused (k ∷ []) e h = grind (arith, nat_tests)
length_at-refused (k ∷ a ∷ []) e h = grind (arith, nat_tests)
length_at-refused (k ∷ a ∷ b ∷ []) e h = grind (arith, nat_tests)
length_at-refused (k ∷ a ∷ b ∷ c ∷ []) e h = grind (arith, nat_tests)
length_at-refused (k ∷ a ∷ b ∷ c ∷ d ∷ bytes) e h = grind (arith, nat_tests)

-- ---- elements

pub piece_at-sound : (bytes : List ℕ) (p : Piece) → piece_at bytes ≡ Ok p → (bytes ≡ element p.tag p.content ++ p.rest) × (is_identifier p.tag ≡ true)
unfolding piece_at content_at element
piece_at-sound [] p e = absurd cc
piece_at-sound (t ∷ bytes) p e =
    let a = test_ok (is_identifier t) Malformed (length_at bytes >>= content_at t) p e in
    let b = bind_ok (length_at bytes) (content_at t) p a.1 in
    let n = b.0 in
    let g = guard_ok (ltb (length n.1) n.0) Malformed (Ok (record { tag = t; content = take n.0 n.1; rest = drop n.0 n.1 })) p b.2 in
    let long : n.0 ≤ length n.1 = ltb-false _ _ g.0 in
    let len : length (take n.0 n.1) ≡ n.0 = omega (arith, length-take n.0 n.1) in
    let joined : take n.0 n.1 ++ drop n.0 n.1 ≡ n.1 = take-append-drop n.0 n.1 in
    let made : Piece = record { tag = t; content = take n.0 n.1; rest = drop n.0 n.1 } in
    let same : made ≡ p = ok_is made p g.1 in
    let octets : bytes ≡ length_octets n.0 ++ n.1 = length_at-sound bytes n.0 n.1 b.1 in
    let whole : t ∷ bytes ≡ element t (take n.0 n.1) ++ drop n.0 n.1 = rw (len, append_assoc (length_octets n.0) (take n.0 n.1) (drop n.0 n.1), joined) (ap (λ (x : List ℕ). t ∷ x) octets) in
    subst (λ (q : Piece). (t ∷ bytes ≡ element q.tag q.content ++ q.rest) × (is_identifier q.tag ≡ true)) same (whole, a.0)

pub piece_at-element : (t : ℕ) (c rest : List ℕ) → is_identifier t ≡ true → piece_at (element t c ++ rest) ≡ Ok (record { tag = t; content = c; rest = rest })
unfolding piece_at content_at element
piece_at-element t c rest h =
    let long : ltb (length (c ++ rest)) (length c) ≡ false = le-ltb _ _ (omega (arith, length-append c rest)) in
    rw (h, append_assoc (length_octets (length c)) c rest, length_at-length_octets (length c) (c ++ rest), long, take_at c rest (length c) refl, drop_at c rest (length c) refl) refl

-- the same with nothing after it
pub piece_at-whole : (t : ℕ) (c : List ℕ) → is_identifier t ≡ true → piece_at (element t c) ≡ Ok (record { tag = t; content = c; rest = [] })
piece_at-whole t c h = subst (λ (b : List ℕ). piece_at b ≡ Ok (record { tag = t; content = c; rest = [] })) (append-nil (element t c)) (piece_at-element t c [] h)

pub piece_at-refused : (bytes : List ℕ) (e : ErrorKind) → piece_at bytes ≡ Err e → e ≡ Malformed
unfolding piece_at content_at
piece_at-refused [] e h = cc
piece_at-refused (t ∷ bytes) e h =
    elim (test_err (is_identifier t) Malformed (length_at bytes >>= content_at t) e h) [
      | inr k ↦ sym k
      | inl k ↦ elim (bind_err (length_at bytes) (content_at t) e k) [
        | inl j ↦ length_at-refused bytes e j
        | inr j ↦ grind (arith, nat_tests, j.2)
      ]
    ]
