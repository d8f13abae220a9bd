-- ASCII texts, prepared.
use Rattle.std.proofs.Common.{◌≡◌, ℕ, zero, suc, ◌-◌, ◌<◌, ◌≤◌, Bool, true, false, not, ◌&&◌, ◌||◌, nat_eq, List, [], ◌∷◌, ◌++◌, length, take, drop, get_or, map, All, Some, if◌then◌else◌, refl, sym, ap, ap₂, ◌∙◌, inl, inr, lit<, arith, le_of_suc-le-suc}
use Rattle.std.proofs.lemmas.Bool.{agree_below_at, cases_Bool, and_parts, and_from, lt-ltb, eqb-true}
use Rattle.std.proofs.lemmas.Bool.Decides.{nat_tests}
use Rattle.std.proofs.lemmas.List.{take_all}
use Rattle.std.specs.Char.{to_ascii_lowercase}
use Rattle.std.specs.List.{list_all, list_any}
use Rattle.caseless.proofs.CaselessLemmas.{default_case_fold-ascii}
use Rattle.unicode_normalization.proofs.FormsLemmas.{normalize-ascii}
use Rattle.unicode_normalization.specs.Forms.{Nfkc}
use Rattle.x509_prim.specs.Alphabet.{is_ia5, ia5_ascii}
use Rattle.x509_match.specs.Plain.{is_letter, is_white, plain_behind}
use Rattle.x509_match.specs.Prepared.{is_kept, spaced, is_mark, is_prohibited, mapped, folded, begins_with_mark, is_within, squeezed, prepared, white_space}

-- ---- the characters below 80, by computation

abbrev holds : ℕ → Bool
holds c =
    (if is_letter c then is_kept c && (nat_eq (spaced c) c && not (nat_eq (to_ascii_lowercase c) 0x20))
    else (if is_white c then is_kept c && nat_eq (spaced c) 0x20 else not (is_kept c)))
    && (not (is_mark c) && not (is_prohibited c))

all_hold : (c : ℕ) → c < 128 → holds c ≡ true
unfolding is_kept spaced is_mark is_prohibited
all_hold c lt = agree_below_at holds (λ b. true) 128 c refl lt

first_of : (b x y : Bool) → (if b then x else y) ≡ true → b ≡ true → x ≡ true
first_of true x y h e = h
first_of false x y h e = absurd cc

second_of : (b x y : Bool) → (if b then x else y) ≡ true → b ≡ false → y ≡ true
second_of true x y h e = absurd cc
second_of false x y h e = h

not_true : (b : Bool) → not b ≡ true → b ≡ false
not_true true h = absurd cc
not_true false h = refl

abbrev when_letter : ℕ → Bool
when_letter c = is_kept c && (nat_eq (spaced c) c && not (nat_eq (to_ascii_lowercase c) 0x20))

abbrev when_white : ℕ → Bool
when_white c = is_kept c && nat_eq (spaced c) 0x20

letter_is : (c : ℕ) → c < 128 → is_letter c ≡ true → (is_kept c ≡ true) × (spaced c ≡ c) × (nat_eq (to_ascii_lowercase c) 0x20 ≡ false)
letter_is c lt l =
    let h = and_parts _ _ (all_hold c lt) in
    let k = first_of (is_letter c) (when_letter c) (if is_white c then when_white c else not (is_kept c)) h.0 l in
    let p = and_parts (is_kept c) (nat_eq (spaced c) c && not (nat_eq (to_ascii_lowercase c) 0x20)) k in
    let q = and_parts (nat_eq (spaced c) c) (not (nat_eq (to_ascii_lowercase c) 0x20)) p.1 in
    (p.0, eqb-true (spaced c) c q.0, not_true _ q.1)

white_is : (c : ℕ) → c < 128 → is_letter c ≡ false → is_white c ≡ true → (is_kept c ≡ true) × (spaced c ≡ 0x20)
white_is c lt l w =
    let h = and_parts _ _ (all_hold c lt) in
    let k = second_of (is_letter c) (when_letter c) (if is_white c then when_white c else not (is_kept c)) h.0 l in
    let m = first_of (is_white c) (when_white c) (not (is_kept c)) k w in
    let p = and_parts (is_kept c) (nat_eq (spaced c) 0x20) m in
    (p.0, eqb-true (spaced c) 0x20 p.1)

other_is : (c : ℕ) → c < 128 → is_letter c ≡ false → is_white c ≡ false → is_kept c ≡ false
other_is c lt l w =
    let h = and_parts _ _ (all_hold c lt) in
    let k = second_of (is_letter c) (when_letter c) (if is_white c then when_white c else not (is_kept c)) h.0 l in
    not_true _ (second_of (is_white c) (when_white c) (not (is_kept c)) k w)

mark_is : (c : ℕ) → c < 128 → is_mark c ≡ false
mark_is c lt = not_true _ (and_parts _ _ (and_parts _ _ (all_hold c lt)).1).0

prohibited_is : (c : ℕ) → c < 128 → is_prohibited c ≡ false
prohibited_is c lt = not_true _ (and_parts _ _ (and_parts _ _ (all_hold c lt)).1).1

spaced_small : (c : ℕ) → c < 128 → spaced c < 128
unfolding spaced
spaced_small c lt = elim (cases_Bool (is_within white_space c)) [ inl white ↦ rw white (lit< tt) | inr other ↦ rw other lt ]

lower_small : (c : ℕ) → c < 128 → to_ascii_lowercase c < 128
lower_small c lt = grind (arith, nat_tests)

lower_again : (c : ℕ) → to_ascii_lowercase (to_ascii_lowercase c) ≡ to_ascii_lowercase c
lower_again c = grind (arith, nat_tests)

-- ---- lists of them

ia5_small : (c : ℕ) → is_ia5 c ≡ true → c < 128
ia5_small c h = ia5_ascii c h

small_ia5 : (c : ℕ) → c < 128 → is_ia5 c ≡ true
unfolding is_ia5
small_ia5 c lt = lt-ltb c 128 lt

all_small : (s : List ℕ) → list_all is_ia5 s ≡ true → All (λ c. c < 128) s
all_small [] h k d lt = absurd (omega arith)
all_small (c ∷ s) h zero d lt = ia5_small c (and_parts (is_ia5 c) (list_all is_ia5 s) h).0
all_small (c ∷ s) h (suc k) d lt = all_small s (and_parts (is_ia5 c) (list_all is_ia5 s) h).1 k d (le_of_suc-le-suc lt)

mapped_ascii : (s : List ℕ) → list_all is_ia5 s ≡ true → list_all is_ia5 (mapped s) ≡ true
unfolding mapped
mapped_ascii [] h = refl
mapped_ascii (c ∷ s) h =
    let p = and_parts (is_ia5 c) (list_all is_ia5 s) h in
    let rest = mapped_ascii s p.1 in
    elim (cases_Bool (is_kept c)) [
      | inl kept ↦ rw kept (and_from _ _ (small_ia5 _ (spaced_small c (ia5_small c p.0))) rest)
      | inr left ↦ rw left rest
    ]

lower_ascii : (s : List ℕ) → list_all is_ia5 s ≡ true → list_all is_ia5 (map to_ascii_lowercase s) ≡ true
lower_ascii [] h = refl
lower_ascii (c ∷ s) h =
    let p = and_parts (is_ia5 c) (list_all is_ia5 s) h in
    and_from _ _ (small_ia5 _ (lower_small c (ia5_small c p.0))) (lower_ascii s p.1)

lowers_again : (s : List ℕ) → map to_ascii_lowercase (map to_ascii_lowercase s) ≡ map to_ascii_lowercase s
lowers_again [] = refl
lowers_again (c ∷ s) = ap₂ ◌∷◌ (lower_again c) (lowers_again s)

no_mark : (s : List ℕ) → list_all is_ia5 s ≡ true → begins_with_mark s ≡ false
no_mark [] h = refl
no_mark (c ∷ s) h = mark_is c (ia5_small c (and_parts (is_ia5 c) (list_all is_ia5 s) h).0)

none_prohibited : (s : List ℕ) → list_all is_ia5 s ≡ true → list_any is_prohibited s ≡ false
none_prohibited [] h = refl
none_prohibited (c ∷ s) h =
    let p = and_parts (is_ia5 c) (list_all is_ia5 s) h in
    rw (prohibited_is c (ia5_small c p.0), none_prohibited s p.1) refl

folded_ascii : (s : List ℕ) → list_all is_ia5 s ≡ true → folded s ≡ map to_ascii_lowercase s
unfolding folded
folded_ascii s h =
    let low = lower_ascii s h in
    let first = default_case_fold-ascii s (all_small s h) in
    let normal = normalize-ascii Nfkc (map to_ascii_lowercase s) (all_small _ low) in
    let second = default_case_fold-ascii (map to_ascii_lowercase s) (all_small _ low) ∙ lowers_again s in
    rw (first, normal, second, normal) refl

pub prepared_ascii : (s : List ℕ) → list_all is_ia5 s ≡ true → prepared s ≡ Some (plain_behind false false s)
unfolding prepared squeezed
prepared_ascii s h =
    let kept = mapped_ascii s h in
    rw (folded_ascii (mapped s) kept, none_prohibited _ (lower_ascii (mapped s) kept)) refl

-- ---- one octet more

pub plain-letter : (begun gap : Bool) (c : ℕ) (s : List ℕ) → c < 128 → is_letter c ≡ true
    → plain_behind begun gap (c ∷ s) ≡ (if begun && gap then 0x20 ∷ [] else []) ++ (to_ascii_lowercase c ∷ plain_behind true false s)
unfolding mapped
plain-letter begun gap c s lt l = let k = letter_is c lt l in rw (k.0, k.1, k.2) refl

pub plain-white : (begun gap : Bool) (c : ℕ) (s : List ℕ) → c < 128 → list_all is_ia5 s ≡ true → is_letter c ≡ false → is_white c ≡ true → plain_behind begun gap (c ∷ s) ≡ plain_behind begun true s
unfolding mapped
plain-white begun gap c s lt h l w =
    let k = white_is c lt l w in
    let m = no_mark _ (lower_ascii (mapped s) (mapped_ascii s h)) in
    rw (k.0, k.1, m) refl

pub plain-other : (begun gap : Bool) (c : ℕ) (s : List ℕ) → c < 128 → is_letter c ≡ false → is_white c ≡ false → plain_behind begun gap (c ∷ s) ≡ plain_behind begun gap s
unfolding mapped
plain-other begun gap c s lt l w = rw (other_is c lt l w) refl

-- ---- what the next octet is

pub next-space : (begun gap : Bool) (c d : ℕ) (s t : List ℕ) → 1 ≤ length s → c ≡ get_or s 0 d → list_all is_ia5 s ≡ true → is_letter c ≡ true → (begun && gap) ≡ true
    → plain_behind begun false t ≡ plain_behind begun gap s → plain_behind begun false t ≡ 0x20 ∷ plain_behind true false s
next-space begun gap c d [] t len at h l both e = absurd (omega arith)
next-space true true c d (first ∷ s) t len at h l both e =
    let same : c ≡ first = at in
    let lt = ia5_small first (and_parts (is_ia5 first) (list_all is_ia5 s) h).0 in
    let k = rw same at l in
    e ∙ plain-letter true true first s lt k ∙ ap (λ x. 0x20 ∷ x) (sym (plain-letter true false first s lt k))
next-space true false c d (first ∷ s) t len at h l both e = absurd cc
next-space false gap c d (first ∷ s) t len at h l both e = absurd cc

pub next-letter : (begun gap : Bool) (c d : ℕ) (s t : List ℕ) → 1 ≤ length s → c ≡ get_or s 0 d → list_all is_ia5 s ≡ true → is_letter c ≡ true → (begun && gap) ≡ false
    → plain_behind begun false t ≡ plain_behind begun gap s
    → (plain_behind begun false t ≡ to_ascii_lowercase c ∷ plain_behind true false (take (length s - 1) (drop 1 s))) × (list_all is_ia5 (take (length s - 1) (drop 1 s)) ≡ true)
next-letter begun gap c d [] t len at h l both e = absurd (omega arith)
next-letter begun gap c d (first ∷ s) t len at h l both e =
    let same : c ≡ first = at in
    let rest : take (length (first ∷ s) - 1) s ≡ s = take_all (length (first ∷ s) - 1) s (omega arith) in
    let p = and_parts (is_ia5 first) (list_all is_ia5 s) h in
    let lt = ia5_small first p.0 in
    let k = rw same at l in
    let made = plain-letter begun gap first s lt k in
    let shown = rw both at made in
    (rw (rest, same) (e ∙ shown), rw rest p.1)

pub next-skipped : (begun gap : Bool) (c d : ℕ) (s t : List ℕ) → 1 ≤ length s → c ≡ get_or s 0 d → list_all is_ia5 s ≡ true → is_letter c ≡ false
    → plain_behind begun false t ≡ plain_behind begun gap s
    → (plain_behind begun false t ≡ plain_behind begun (gap || is_white c) (take (length s - 1) (drop 1 s))) × (list_all is_ia5 (take (length s - 1) (drop 1 s)) ≡ true)
next-skipped begun gap c d [] t len at h l e = absurd (omega arith)
next-skipped begun gap c d (first ∷ s) t len at h l e =
    let same : c ≡ first = at in
    let rest : take (length (first ∷ s) - 1) s ≡ s = take_all (length (first ∷ s) - 1) s (omega arith) in
    let p = and_parts (is_ia5 first) (list_all is_ia5 s) h in
    let lt = ia5_small first p.0 in
    let k = rw same at l in
    elim (cases_Bool (is_white first)) [
      | inl white ↦ (rw (rest, same, white) (e ∙ plain-white begun gap first s lt p.1 k white ∙ ap (λ b. plain_behind begun b s) (sym (or_true gap))), rw rest p.1)
      | inr other ↦ (rw (rest, same, other) (e ∙ plain-other begun gap first s lt k other ∙ ap (λ b. plain_behind begun b s) (sym (or_false gap))), rw rest p.1)
    ]
  where
    or_true : (b : Bool) → (b || true) ≡ true
    or_true true = refl
    or_true false = refl

    or_false : (b : Bool) → (b || false) ≡ b
    or_false true = refl
    or_false false = refl

pub next-none : (begun gap : Bool) (s t : List ℕ) → length s < 1 → plain_behind begun false t ≡ plain_behind begun gap s → plain_behind begun false t ≡ []
unfolding mapped
next-none begun gap [] t len e = e
next-none begun gap (c ∷ s) t len e = absurd (omega arith)
