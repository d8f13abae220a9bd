-- What begins with a key of each of two sets.
use Rattle.std.proofs.Common.{◌≡◌, inl, inr, ℕ, Bool, true, false, ◌||◌, ◌&&◌, not, cond, List, [], ◌∷◌, refl, sym, ◌∙◌, ap, arith, subst}
use Rattle.std.proofs.lemmas.Bool.Decides.{nat_tests}
use Rattle.std.proofs.lemmas.Bool.{or_cases, and_parts}
use Rattle.std.specs.List.{filter, list_any}
use Rattle.std.proofs.lemmas.List.Kept.{AllPairs-filter}
use Rattle.x509_constraints.specs.Merging.{merge}
use Rattle.x509_constraints.specs.Prefixes.{AreApart, begins, forks, has_prefix}
use Rattle.x509_constraints.proofs.Merges.{merge-list_any}
use Rattle.x509_constraints.proofs.Keys.{begins-trans}

-- of two keys with which one begins, one begins with the other
begins-either : (key a b : List ℕ) → begins key a ≡ true → begins key b ≡ true → (begins a b || begins b a) ≡ true
begins-either key a [] h k = first a
  where
    first : (x : List ℕ) → (begins x [] || begins [] x) ≡ true
    first [] = refl
    first (x ∷ xs) = refl
begins-either key [] (b ∷ bs) h k = refl
begins-either [] (a ∷ ms) (b ∷ bs) h k = cc
begins-either (x ∷ xs) (a ∷ ms) (b ∷ bs) h k = grind (arith, nat_tests, begins-either xs ms bs)

-- ---- members, as tests say

-- some key of the list passes both tests
abbrev pub any_both : (List ℕ → Bool) → (List ℕ → Bool) → List (List ℕ) → Bool
any_both p q xs = list_any (λ x. q x && p x) xs

pub list_any-filter : (p q : List ℕ → Bool) (xs : List (List ℕ)) → list_any p (filter q xs) ≡ any_both p q xs
list_any-filter p q [] = refl
list_any-filter p q (x ∷ xs) = by_test (list_any-filter p q xs) (q x)
  where
    by_test : list_any p (filter q xs) ≡ any_both p q xs → (b : Bool) → list_any p (cond b (x ∷ filter q xs) (filter q xs)) ≡ ((b && p x) || any_both p q xs)
    by_test later true = ap (λ b. p x || b) later
    by_test later false = later

-- a witness
pub record Finds (p : List ℕ → Bool) (xs : List (List ℕ)) : Type 0 where
  pub one : List ℕ
  pub passes : p one ≡ true
  pub found : (q : List ℕ → Bool) → q one ≡ true → list_any q xs ≡ true

or_right : (a b : Bool) → b ≡ true → (a || b) ≡ true
or_right true b h = refl
or_right false b h = h

or_left : (a b : Bool) → a ≡ true → (a || b) ≡ true
or_left true b h = refl
or_left false b h = absurd (cc)

pub finds : (p : List ℕ → Bool) (xs : List (List ℕ)) → list_any p xs ≡ true → Finds p xs
finds p [] h = absurd (cc)
finds p (x ∷ xs) h = elim (or_cases (p x) (list_any p xs) h) [
  | inl here ↦ record { one = x; passes = here; found = λ q passes. or_left (q x) (list_any q xs) passes }
  | inr later ↦
      let more = finds p xs later in
      record { one = more.one; passes = more.passes; found = λ q passes. or_right (q x) (list_any q xs) (more.found q passes) }
]

and_true : (a b : Bool) → a ≡ true → b ≡ true → (a && b) ≡ true
and_true true b h k = k
and_true false b h k = absurd (cc)

-- ---- the two ways

abbrev within : List (List ℕ) → List (List ℕ) → List (List ℕ)
within xs ys = filter (λ key. has_prefix ys key) xs

abbrev outside : List (List ℕ) → List (List ℕ) → List (List ℕ)
outside xs ys = filter (λ key. not (has_prefix ys key)) xs

-- what begins with a key that begins with one of the set begins with one of it
has_prefix-trans : (key a : List ℕ) (ys : List (List ℕ)) → begins key a ≡ true → has_prefix ys a ≡ true → has_prefix ys key ≡ true
has_prefix-trans key a ys h k =
    let b = finds (λ p. begins a p) ys k in
    b.found (λ p. begins key p) (begins-trans key a b.one h b.passes)

within_both : (xs ys : List (List ℕ)) (key : List ℕ) → has_prefix (within xs ys) key ≡ true → (has_prefix xs key && has_prefix ys key) ≡ true
within_both xs ys key h =
    let a = finds (λ x. has_prefix ys x && begins key x) xs (sym (list_any-filter (λ p. begins key p) (λ x. has_prefix ys x) xs) ∙ h) in
    let both = and_parts (has_prefix ys a.one) (begins key a.one) a.passes in
    and_true (has_prefix xs key) (has_prefix ys key) (a.found (λ p. begins key p) both.1) (has_prefix-trans key a.one ys both.1 both.0)

under_both : (xs ys zs : List (List ℕ)) (key : List ℕ) → ((k : List ℕ) → has_prefix zs k ≡ true → has_prefix xs k ≡ true) →
    has_prefix (within ys zs) key ≡ true → (has_prefix xs key && has_prefix ys key) ≡ true
under_both xs ys zs key sub h =
    let both = and_parts (has_prefix ys key) (has_prefix zs key) (within_both ys zs key h) in
    and_true (has_prefix xs key) (has_prefix ys key) (sub key both.1) both.0

outside_sub : (xs ys : List (List ℕ)) (key : List ℕ) → has_prefix (outside xs ys) key ≡ true → has_prefix xs key ≡ true
outside_sub xs ys key h =
    let a = finds (λ x. not (has_prefix ys x) && begins key x) xs (sym (list_any-filter (λ p. begins key p) (λ x. not (has_prefix ys x)) xs) ∙ h) in
    let both = and_parts (not (has_prefix ys a.one)) (begins key a.one) a.passes in
    a.found (λ p. begins key p) both.1

-- both have a prefix
both_meet : (xs ys : List (List ℕ)) (key : List ℕ) → has_prefix xs key ≡ true → has_prefix ys key ≡ true →
    (has_prefix (within xs ys) key || has_prefix (within ys (outside xs ys)) key) ≡ true
both_meet xs ys key own other = by_test (has_prefix ys a.one) refl
  where
    a : Finds (λ p. begins key p) xs
    a = finds (λ p. begins key p) xs own

    b : Finds (λ p. begins key p) ys
    b = finds (λ p. begins key p) ys other

    by_test : (t : Bool) → has_prefix ys a.one ≡ t → (has_prefix (within xs ys) key || has_prefix (within ys (outside xs ys)) key) ≡ true
    by_test true is = or_left _ _ (list_any-filter (λ p. begins key p) (λ x. has_prefix ys x) xs
        ∙ a.found (λ x. has_prefix ys x && begins key x) (and_true _ _ is a.passes))
    by_test false is =
        let in_outside : (k : List ℕ) → begins k a.one ≡ true → has_prefix (outside xs ys) k ≡ true =
        λ k begun. list_any-filter (λ p. begins k p) (λ x. not (has_prefix ys x)) xs
        ∙ a.found (λ x. not (has_prefix ys x) && begins k x) (and_true _ _ (ap not is) begun) in
        elim (or_cases (begins a.one b.one) (begins b.one a.one) (begins-either key a.one b.one a.passes b.passes)) [
          | inl first ↦ absurd (let e : true ≡ false = sym (b.found (λ p. begins a.one p) first) ∙ is in cc)
          | inr second ↦ or_right _ _ (list_any-filter (λ p. begins key p) (λ x. has_prefix (outside xs ys) x) ys
              ∙ b.found (λ x. has_prefix (outside xs ys) x && begins key x) (and_true _ _ (in_outside b.one second) b.passes))
        ]

-- two tests that are passed alike
alike : (a b : Bool) → (a ≡ true → b ≡ true) → (b ≡ true → a ≡ true) → a ≡ b
alike true b forth back = sym (forth refl)
alike false true forth back = absurd (let e = back refl in cc)
alike false false forth back = refl

pub meet_answers : (xs ys : List (List ℕ)) (key : List ℕ) →
    (has_prefix (within xs ys) key || has_prefix (within ys (outside xs ys)) key) ≡ (has_prefix xs key && has_prefix ys key)
meet_answers xs ys key = alike _ _ forth back
  where
    forth : (has_prefix (within xs ys) key || has_prefix (within ys (outside xs ys)) key) ≡ true → (has_prefix xs key && has_prefix ys key) ≡ true
    forth h = elim (or_cases _ _ h) [
      | inl first ↦ within_both xs ys key first
      | inr second ↦ under_both xs ys (outside xs ys) key (outside_sub xs ys) second
    ]

    back : (has_prefix xs key && has_prefix ys key) ≡ true → (has_prefix (within xs ys) key || has_prefix (within ys (outside xs ys)) key) ≡ true
    back h = let both = and_parts _ _ h in both_meet xs ys key both.0 both.1

pub apart_filter : (p : List ℕ → Bool) (xs ys : List (List ℕ)) → ys ≡ filter p xs → AreApart xs → AreApart ys
apart_filter p xs ys is apart =
    let P : List (List ℕ) → Type 0 = λ l. AreApart l in
    subst P (sym is) (AllPairs-filter (λ a b. forks a b ≡ true) p xs apart)

pub intersection_answers : (xs ys self other in_other outside under set : List (List ℕ)) → xs ≡ self → ys ≡ other →
    in_other ≡ filter (λ key. has_prefix other key) xs → outside ≡ filter (λ key. not (has_prefix other key)) xs →
    under ≡ filter (λ key. has_prefix outside key) ys → ((key : List ℕ) → has_prefix set key ≡ has_prefix (merge in_other under) key) →
    (key : List ℕ) → has_prefix set key ≡ (has_prefix self key && has_prefix other key)
intersection_answers xs ys self other in_other outer under set own others in_is out_is under_is answers key =
    let in_ys : in_other ≡ within xs ys = in_is ∙ ap (λ o. filter (λ k. has_prefix o k) xs) (sym others) in
    let out_ys : outer ≡ outside xs ys = out_is ∙ ap (λ o. filter (λ k. not (has_prefix o k)) xs) (sym others) in
    let under_ys : under ≡ within ys (outside xs ys) = under_is ∙ ap (λ o. filter (λ k. has_prefix o k) ys) out_ys in
    answers key ∙ (merge-list_any (λ p. begins key p) in_other under
    ∙ (ap (λ l. has_prefix l key || has_prefix under key) in_ys ∙ (ap (λ l. has_prefix (within xs ys) key || has_prefix l key) under_ys
    ∙ (meet_answers xs ys key ∙ (ap (λ l. has_prefix l key && has_prefix ys key) own ∙ ap (λ l. has_prefix self key && has_prefix l key) others)))))
