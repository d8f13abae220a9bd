-- Two lists of keys merged, and swept as one.
use Rattle.std.proofs.Common.{if◌then◌else◌, nat_lt, ◌≡◌, ℕ, suc, ◌<◌, Bool, true, false, ◌||◌, List, [], ◌∷◌, ◌++◌, length, drop, refl, sym, ◌∙◌, ap, arith, Option, None, Some, MatchOption, IfSome, IsSome, is_some, slice_index_or, Bor, suc-le-suc, zero-le}
use Rattle.std.proofs.lemmas.Bool.Decides.{nat_tests}
use Rattle.std.specs.List.{list_any, slice_get}
use Rattle.std.specs.Option.{option_copied, option_to_list}
use Rattle.std.specs.Slice.{IsItemAt}
use Rattle.x509_constraints.specs.Merging.{into, is_first, merge}
use Rattle.x509_constraints.specs.Prefixes.{AreApart, begins, forks, has_prefix, upto}
use Rattle.x509_constraints.proofs.Sweep.{IsRising, IsSwept, Rises}

pub upto-other : (x y : List ℕ) → upto x y ≡ false → upto y x ≡ true
upto-other [] y h = cc
upto-other (x ∷ xs) [] h = refl
upto-other (x ∷ xs) (y ∷ ys) h = grind (arith, nat_tests, upto-other xs ys)

forks-is_upto : (x y : List ℕ) → forks x y ≡ true → upto x y ≡ true
forks-is_upto [] y h = refl
forks-is_upto (x ∷ xs) [] h = cc
forks-is_upto (x ∷ xs) (y ∷ ys) h = grind (arith, nat_tests, forks-is_upto xs ys)

apart-tail : (x : List ℕ) (xs : List (List ℕ)) → AreApart (x ∷ xs) → AreApart xs
apart-tail x xs apart i j d before inside = apart (suc i) (suc j) d (suc-le-suc before) (suc-le-suc inside)

rises_from_apart : (x : List ℕ) (xs : List (List ℕ)) → AreApart (x ∷ xs) → Rises x xs
rises_from_apart x [] apart = tt
rises_from_apart x (y ∷ ys) apart = (
  forks-is_upto x y (apart 0 1 [] (suc-le-suc zero-le) (suc-le-suc (suc-le-suc zero-le))),
  rises_from_apart y ys (apart-tail x (y ∷ ys) apart),
)

-- ---- the merged list ascends

into_rises : (x : List ℕ) (xs : List (List ℕ)) → ((z : List ℕ) (ys : List (List ℕ)) → Rises z xs → Rises z ys → Rises z (merge xs ys)) →
    (z : List ℕ) (ys : List (List ℕ)) → upto z x ≡ true → Rises x xs → Rises z ys → Rises z (into x (merge xs) ys)
into_rises x xs behind z [] first own other = (first, behind x [] own tt)
into_rises x xs behind z (y ∷ ys) first own other = by_test (into_rises x xs behind y ys) (upto x y) refl
  where
    by_test : (upto y x ≡ true → Rises x xs → Rises y ys → Rises y (into x (merge xs) ys)) → (b : Bool) → upto x y ≡ b →
        Rises z (if b then x ∷ merge xs (y ∷ ys) else y ∷ into x (merge xs) ys)
    by_test later true is = (first, behind x (y ∷ ys) own (is, other.1))
    by_test later false is = (other.0, later (upto-other x y is) own other.1)

merge_rises : (xs : List (List ℕ)) (z : List ℕ) (ys : List (List ℕ)) → Rises z xs → Rises z ys → Rises z (merge xs ys)
merge_rises [] z ys own other = other
merge_rises (x ∷ xs) z ys own other = into_rises x xs (merge_rises xs) z ys own.0 own.1 other

pub merge-IsRising : (xs ys : List (List ℕ)) → AreApart xs → AreApart ys → IsRising (merge xs ys)
merge-IsRising [] [] own other = tt
merge-IsRising [] (y ∷ ys) own other = rises_from_apart y ys other
merge-IsRising (x ∷ xs) [] own other = merge_rises xs x [] (rises_from_apart x xs own) tt
merge-IsRising (x ∷ xs) (y ∷ ys) own other = by_test (upto x y) refl
  where
    by_test : (b : Bool) → upto x y ≡ b → IsRising (if b then x ∷ merge xs (y ∷ ys) else y ∷ into x (merge xs) ys)
    by_test true is = merge_rises xs x (y ∷ ys) (rises_from_apart x xs own) (is, rises_from_apart y ys other)
    by_test false is =
        into_rises x xs (merge_rises xs) y ys (upto-other x y is) (rises_from_apart x xs own) (rises_from_apart y ys other)

-- ---- and has the keys of both

or_assoc : (a b c : Bool) → (a || (b || c)) ≡ ((a || b) || c)
or_assoc true b c = refl
or_assoc false b c = refl

or_turned : (a b c d : Bool) → (b || ((a || c) || d)) ≡ ((a || c) || (b || d))
or_turned true true c d = refl
or_turned true false c d = refl
or_turned false true true d = refl
or_turned false true false d = refl
or_turned false false c d = refl

or_none : (a : Bool) → (a || false) ≡ a
or_none true = refl
or_none false = refl

into-list_any : (p : List ℕ → Bool) (x : List ℕ) (xs : List (List ℕ)) → ((ys : List (List ℕ)) → list_any p (merge xs ys) ≡ (list_any p xs || list_any p ys)) →
    (ys : List (List ℕ)) → list_any p (into x (merge xs) ys) ≡ ((p x || list_any p xs) || list_any p ys)
into-list_any p x xs behind [] = ap (λ b. p x || b) (behind []) ∙ or_assoc (p x) (list_any p xs) false
into-list_any p x xs behind (y ∷ ys) = by_test (into-list_any p x xs behind ys) (upto x y)
  where
    by_test : list_any p (into x (merge xs) ys) ≡ ((p x || list_any p xs) || list_any p ys) → (b : Bool) → list_any p (if b then x ∷ merge xs (y ∷ ys) else y ∷ into x (merge xs) ys) ≡ ((p x || list_any p xs) || (p y || list_any p ys))
    by_test later true = ap (λ b. p x || b) (behind (y ∷ ys)) ∙ or_assoc (p x) (list_any p xs) (p y || list_any p ys)
    by_test later false = ap (λ b. p y || b) later ∙ or_turned (p x) (p y) (list_any p xs) (list_any p ys)

pub merge-list_any : (p : List ℕ → Bool) (xs ys : List (List ℕ)) → list_any p (merge xs ys) ≡ (list_any p xs || list_any p ys)
merge-list_any p [] ys = refl
merge-list_any p (x ∷ xs) ys = into-list_any p x xs (merge-list_any p xs) ys

-- ---- the next of them

drop_none : (xs : List (List ℕ)) → xs ≡ drop 1 xs → xs ≡ []
drop_none [] h = refl
drop_none (x ∷ xs) h = absurd (let e = ap length h in omega arith)

pub merge-left : (xs ys xs' : List (List ℕ)) (r : Option (List ℕ)) → is_first (slice_get xs 0) (slice_get ys 0) ≡ true →
    xs ≡ option_to_list r ++ xs' → xs' ≡ drop 1 xs → MatchOption r (merge xs ys ≡ []) (λ k. merge xs ys ≡ k ∷ merge xs' ys)
merge-left xs ys xs' None first items rest =
    let empty : xs ≡ [] = drop_none xs (items ∙ rest) in
    absurd (let e : false ≡ true = sym (ap (λ l. is_first (slice_get l 0) (slice_get ys 0)) empty) ∙ first in cc)
merge-left xs ys xs' (Some k) first items rest = ap (λ l. merge l ys) items ∙ by_other ys (sym (ap (λ l. is_first (slice_get l 0) (slice_get ys 0)) items) ∙ first)
  where
    by_other : (zs : List (List ℕ)) → is_first (Some k) (slice_get zs 0) ≡ true → into k (merge xs') zs ≡ k ∷ merge xs' zs
    by_other [] h = refl
    by_other (z ∷ zs) h = ap (λ b. if b then k ∷ merge xs' (z ∷ zs) else z ∷ into k (merge xs') zs) h

pub merge-right : (xs ys ys' : List (List ℕ)) (r : Option (List ℕ)) → is_first (slice_get xs 0) (slice_get ys 0) ≡ false →
    ys ≡ option_to_list r ++ ys' → ys' ≡ drop 1 ys → MatchOption r (merge xs ys ≡ []) (λ k. merge xs ys ≡ k ∷ merge xs ys')
merge-right xs ys ys' None first items rest =
    let empty : ys ≡ [] = drop_none ys (items ∙ rest) in
    ap (merge xs) empty ∙ by_own xs (sym (ap (λ l. is_first (slice_get xs 0) (slice_get l 0)) empty) ∙ first)
  where
    by_own : (zs : List (List ℕ)) → is_first (slice_get zs 0) None ≡ false → merge zs [] ≡ []
    by_own [] h = refl
    by_own (z ∷ zs) h = absurd (cc)
merge-right xs ys ys' (Some k) first items rest =
    ap (merge xs) items ∙ by_own xs (sym (ap (λ l. is_first (slice_get xs 0) (slice_get l 0)) items) ∙ first)
  where
    by_own : (zs : List (List ℕ)) → is_first (slice_get zs 0) (Some k) ≡ false → merge zs (k ∷ ys') ≡ k ∷ merge zs ys'
    by_own [] h = refl
    by_own (z ∷ zs) h = ap (λ b. if b then z ∷ merge zs (k ∷ ys') else k ∷ into z (merge zs) ys') h

-- ---- swept

pub swept_rising : (all : List (List ℕ)) → IsRising all → IsSwept all [] all
swept_rising all rising = record {
  apart = λ i j d before inside. absurd (omega arith);
  same = λ key. refl;
  rising = rising;
  behind = λ k is. absurd (cc);
}

pub union_answers : (xs ys self other set : List (List ℕ)) → xs ≡ self → ys ≡ other → ((key : List ℕ) → has_prefix set key ≡ has_prefix (merge xs ys) key) →
    (key : List ℕ) → has_prefix set key ≡ (has_prefix self key || has_prefix other key)
union_answers xs ys self other set own others answers key = answers key ∙ (merge-list_any (λ p. begins key p) xs ys
    ∙ (ap (λ l. has_prefix l key || has_prefix ys key) own ∙ ap (λ l. has_prefix self key || has_prefix l key) others))

front_is : (xs : List (List ℕ)) (r : Option (Bor (List ℕ))) → is_some r ≡ nat_lt 0 (length xs) → (0 < length xs → IsSome r) →
    IfSome r (λ x. x.now ≡ slice_index_or xs 0 x.now) → option_copied r ≡ slice_get xs 0
front_is [] None some can is = refl
front_is [] (Some x) some can is = absurd (let e : true ≡ false = some in cc)
front_is (x ∷ xs) None some can is = absurd (let e : false ≡ true = can (suc-le-suc zero-le) in cc)
front_is (x ∷ xs) (Some y) some can is = ap (λ z. Some z) is

pub first_is : (xs ys : List (List ℕ)) (l r : Option (Bor (List ℕ))) (b : Bool) → IsItemAt xs 0 l → IsItemAt ys 0 r →
    b ≡ is_first (option_copied l) (option_copied r) → is_first (slice_get xs 0) (slice_get ys 0) ≡ b
first_is xs ys l r b left right is =
    sym (is ∙ (ap (λ o. is_first o (option_copied r)) (front_is xs l left.0 left.2 left.1) ∙ ap (is_first (slice_get xs 0)) (front_is ys r right.0 right.2 right.1)))
