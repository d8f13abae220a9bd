-- Keys in ascending order, one list for all orders of them; and what keys of distinguished names say.
use Rattle.std.proofs.Common.{if◌then◌else◌, ◌≡◌, ◌↔◌, ℕ, zero, suc, ◌+◌, ◌<◌, ◌≤◌, Bool, true, false, cond, List, [], ◌∷◌, ◌++◌, map, take, length, get_or, refl, sym, ap, ◌∙◌, subst, arith, add-one, append_assoc, suc-le-suc, zero-le, length-append}
use Rattle.std.proofs.lemmas.Bool.Decides.{nat_tests}
use Rattle.std.proofs.lemmas.Cmp.{nat_list_cmp_total}
use Rattle.std.proofs.lemmas.List.{append-nil, map-append, take_all}
use Rattle.std.proofs.lemmas.List.Folds.{flat_map-map}
use Rattle.std.proofs.lemmas.List.MinMax.{ranks_by}
use Rattle.std.proofs.lemmas.List.Sorted.{IsPermutation-append_right, IsPermutation-insert, IsPermutation-refl, IsPermutation-sym, IsPermutation-trans, sorted_far, sum_by-IsPermutation}
use Rattle.std.proofs.lemmas.Map.Text.{is_eq-slice_cmp}
use Rattle.std.specs.Cmp.Lexicographic.{bytes_decides, slice_cmp}
use Rattle.std.specs.List.{AllByRecursion, flat_map, insert}
use Rattle.std.specs.List.Sorted.{IsPermutation, IsSortedByKey}
use Rattle.std.specs.Ordering.{eq_by_cmp, is_eq, is_lt, nat_cmp}
use Rattle.std.specs.declared.cmp.Ordering.TheVariants.{Equal}
use Rattle.x509_match.proofs.OneOrder.{Rises, unique}
use Rattle.x509_match.specs.Keys.{attribute_key}
use Rattle.x509_match.specs.Matching.{BeginsWith, RdnsMatch}
use Rattle.x509_name.specs.declared.attr.type_and_value.AttributeTypeAndValue.{AttributeTypeAndValue}
use Rattle.x509_constraints.specs.Directory.{directory_key, rdn_key}
use Rattle.x509_constraints.specs.Keys.{stop, symbols}
use Rattle.x509_constraints.specs.Prefixes.{begins, upto}
use Rattle.x509_constraints.specs.SubtreeKeys.{distinguished_key, in_order, placed, rdn_octets}
use Rattle.x509_constraints.proofs.Directories.{IsWithinDirectory, directory_answers}
use Rattle.x509_constraints.proofs.Keys.{begins-itself, below, is_below, upto-trans}
use Rattle.x509_constraints.proofs.Merges.{upto-other}

exact : (x y : List ℕ) → slice_cmp nat_cmp x y ≡ Equal → x ≡ y
exact x y e = (bytes_decides x y).0 (sym (is_eq-slice_cmp x y) ∙ ap is_eq e)

abbrev keys_rise : List (List ℕ) → Type 0
keys_rise = Rises nat_list_cmp_total exact

-- ---- placed in order

abbrev All_behind : List ℕ → List (List ℕ) → Type 0
All_behind x xs = AllByRecursion (λ z. upto x z ≡ true) xs

abbrev Ascends : List (List ℕ) → Type 0
Ascends [] = Unit {0}
Ascends (x ∷ xs) = All_behind x xs × Ascends xs

all_trans : (k x : List ℕ) (xs : List (List ℕ)) → upto k x ≡ true → All_behind x xs → All_behind k xs
all_trans k x [] h a = tt
all_trans k x (y ∷ ys) h a = (upto-trans k x y h a.0, all_trans k x ys h a.1)

placed_all : (k x : List ℕ) (xs : List (List ℕ)) → upto x k ≡ true → All_behind x xs → All_behind x (placed k xs)
placed_all k x [] h a = (h, tt)
placed_all k x (y ∷ ys) h a = by_test (placed_all k x ys h a.1) (upto k y)
  where
    by_test : All_behind x (placed k ys) → (b : Bool) → All_behind x (if b then k ∷ y ∷ ys else y ∷ placed k ys)
    by_test later true = (h, (a.0, a.1))
    by_test later false = (a.0, later)

placed_ascends : (k : List ℕ) (xs : List (List ℕ)) → Ascends xs → Ascends (placed k xs)
placed_ascends k [] a = (tt, tt)
placed_ascends k (x ∷ xs) a = by_test (placed_ascends k xs a.1) (upto k x) refl
  where
    by_test : Ascends (placed k xs) → (b : Bool) → upto k x ≡ b → Ascends (if b then k ∷ x ∷ xs else x ∷ placed k xs)
    by_test later true is = ((is, all_trans k x xs is a.0), a)
    by_test later false is = (placed_all k x xs (upto-other k x is) a.0, later)

in_order_ascends : (xs : List (List ℕ)) → Ascends (in_order xs)
in_order_ascends [] = tt
in_order_ascends (x ∷ xs) = placed_ascends x (in_order xs) (in_order_ascends xs)

not_below : (x z : List ℕ) → upto x z ≡ true → below z x ≡ false
not_below [] [] h = refl
not_below [] (z ∷ zs) h = refl
not_below (x ∷ xs) [] h = cc
not_below (x ∷ xs) (z ∷ zs) h = grind (arith, nat_tests, not_below xs zs)

none_less : (x : List ℕ) (xs : List (List ℕ)) → All_behind x xs → AllByRecursion (λ z. is_lt (slice_cmp nat_cmp z x) ≡ false) xs
none_less x [] a = tt
none_less x (z ∷ zs) a = (is_below z x (slice_cmp nat_cmp z x) refl ∙ not_below x z a.0, none_less x zs a.1)

ascends_rises : (xs : List (List ℕ)) → Ascends xs → keys_rise xs
ascends_rises [] a = tt
ascends_rises (x ∷ xs) a = (none_less x xs a.0, ascends_rises xs a.1)

-- ---- the same keys

abbrev spot : List ℕ → List (List ℕ) → ℕ
spot k [] = 0
spot k (x ∷ xs) = if upto k x then 0 else suc (spot k xs)

placed_is : (k : List ℕ) (xs : List (List ℕ)) → placed k xs ≡ insert xs (spot k xs) k
placed_is k [] = refl
placed_is k (x ∷ xs) = by_test (placed_is k xs) (upto k x)
  where
    by_test : placed k xs ≡ insert xs (spot k xs) k → (b : Bool) →
        (if b then k ∷ x ∷ xs else x ∷ placed k xs) ≡ insert (x ∷ xs) (if b then 0 else suc (spot k xs)) k
    by_test later true = refl
    by_test later false = ap (λ l. x ∷ l) later

placed_same : (k : List ℕ) (xs : List (List ℕ)) → IsPermutation (k ∷ xs) (placed k xs)
placed_same k xs =
    let P : List (List ℕ) → Type 0 = λ l. IsPermutation (k ∷ xs) l in
    subst P (sym (placed_is k xs)) (IsPermutation-insert xs (spot k xs) k)

pub in_order_same : (xs : List (List ℕ)) → IsPermutation xs (in_order xs)
in_order_same [] = IsPermutation-refl []
in_order_same (x ∷ xs) = IsPermutation-trans (x ∷ xs) (x ∷ in_order xs) (placed x (in_order xs)) (IsPermutation-append_right (x ∷ []) xs (in_order xs) (in_order_same xs)) (placed_same x (in_order xs))

-- lists that rise and have the same keys are one
one_list : (xs ys : List (List ℕ)) → keys_rise xs → keys_rise ys → IsPermutation xs ys → xs ≡ ys
one_list xs ys s t p = unique nat_list_cmp_total exact xs ys s t
    (λ q. sym (sum_by-IsPermutation (λ z. cond (eq_by_cmp (slice_cmp nat_cmp) q z) 1 0) xs ys p))

pub same_order : (xs ys : List (List ℕ)) → IsPermutation xs ys → in_order xs ≡ in_order ys
same_order xs ys p = one_list (in_order xs) (in_order ys) (ascends_rises _ (in_order_ascends xs)) (ascends_rises _ (in_order_ascends ys))
    (IsPermutation-trans _ _ _ (IsPermutation-sym _ _ (in_order_same xs)) (IsPermutation-trans _ _ _ p (in_order_same ys)))

pub order_same : (xs ys : List (List ℕ)) → in_order xs ≡ in_order ys → IsPermutation xs ys
order_same xs ys e =
    let P : List (List ℕ) → Type 0 = λ l. IsPermutation xs l in
    IsPermutation-trans xs (in_order ys) ys (subst P e (in_order_same xs)) (IsPermutation-sym _ _ (in_order_same ys))

-- ---- sorted by the code

module _ {X : Type 0} (f : X → List ℕ) where
  none_before : (x : X) (ys : List X) → ((k : ℕ) (d : X) → k < length ys → is_lt (slice_cmp nat_cmp (f (get_or ys k d)) (f x)) ≡ false) →
      AllByRecursion (λ z. is_lt (slice_cmp nat_cmp z (f x)) ≡ false) (map f ys)
  none_before x [] h = tt
  none_before x (y ∷ ys) h = (h zero x (suc-le-suc zero-le), none_before x ys (λ k d lt. h (suc k) d (suc-le-suc lt)))

  sorted_rises : (xs : List X) → IsSortedByKey f (slice_cmp nat_cmp) xs → keys_rise (map f xs)
  sorted_rises [] s = tt
  sorted_rises (x ∷ xs) s = (
    none_before x xs (λ k d lt. sorted_far (λ a b. is_lt (slice_cmp nat_cmp (f a) (f b))) (ranks_by nat_list_cmp_total f) (x ∷ xs) s 0 (suc k) d zero-le (suc-le-suc lt)),
    sorted_rises xs (λ k d low lt. let e = s (suc k) d zero-le (omega (arith, lt)) in let g = rw add-one at e in rw add-one g),
  )

  pub sorted_is : (xs : List X) (keys : List (List ℕ)) → IsSortedByKey f (slice_cmp nat_cmp) xs → IsPermutation keys (map f xs) → map f xs ≡ in_order keys
  sorted_is xs keys s p = one_list (map f xs) (in_order keys) (sorted_rises xs s) (ascends_rises _ (in_order_ascends keys))
      (IsPermutation-trans _ _ _ (IsPermutation-sym _ _ p) (in_order_same keys))

-- ---- keys of distinguished names

no_rest : {X : Type 0} (xs ys r s : List X) → xs ≡ ys ++ r → ys ≡ xs ++ s → xs ≡ ys
no_rest xs ys [] s e f = e ∙ append-nil ys
no_rest xs ys (z ∷ r) s e f = absurd (
    let m = ap length e ∙ length-append ys (z ∷ r) in
    let n = ap length f ∙ length-append xs s in
    omega (arith, m, n)
    )

pub directory_key-exact : (xs ys : List (List ℕ)) → directory_key xs ≡ directory_key ys → xs ≡ ys
directory_key-exact xs ys e =
    let first = (directory_answers xs ys).0 (ap (begins (directory_key xs)) (sym e) ∙ begins-itself (directory_key xs)) in
    let second = (directory_answers ys xs).0 (ap (begins (directory_key ys)) e ∙ begins-itself (directory_key ys)) in
    no_rest xs ys first.0 second.0 first.1 second.1

rdn_octets-match : (a b : List AttributeTypeAndValue) → (rdn_octets a ≡ rdn_octets b) ↔ RdnsMatch a b
rdn_octets-match a b = (
  λ e. order_same (map attribute_key a) (map attribute_key b) (directory_key-exact (in_order (map attribute_key a)) (in_order (map attribute_key b)) e),
  λ p. ap directory_key (same_order (map attribute_key a) (map attribute_key b) p),
)

first_rdns : (x y : List (List AttributeTypeAndValue)) → IsWithinDirectory (map rdn_octets x) (map rdn_octets y) ↔ BeginsWith x y
first_rdns x [] = ((λ h. tt), (λ h. (map rdn_octets x, refl)))
first_rdns [] (b ∷ y) = (forth, (λ h. absurd h))
  where
    forth : IsWithinDirectory [] (map rdn_octets (b ∷ y)) → BeginsWith [] (b ∷ y)
    forth (rest, is) = absurd (cc)
first_rdns (a ∷ x) (b ∷ y) = (forth (first_rdns x y), back (first_rdns x y))
  where
    forth : IsWithinDirectory (map rdn_octets x) (map rdn_octets y) ↔ BeginsWith x y → IsWithinDirectory (map rdn_octets (a ∷ x)) (map rdn_octets (b ∷ y)) →
        BeginsWith (a ∷ x) (b ∷ y)
    forth others (rest, is) =
        let head : rdn_octets a ≡ rdn_octets b = cc in
        let tail : map rdn_octets x ≡ map rdn_octets y ++ rest = cc in
        ((rdn_octets-match a b).0 head, others.0 (rest, tail))

    back : IsWithinDirectory (map rdn_octets x) (map rdn_octets y) ↔ BeginsWith x y → BeginsWith (a ∷ x) (b ∷ y) →
        IsWithinDirectory (map rdn_octets (a ∷ x)) (map rdn_octets (b ∷ y))
    back others (head, tail) =
        let more = others.1 tail in
        (more.0, ap (λ r. r ∷ map rdn_octets x) ((rdn_octets-match a b).1 head) ∙ ap (λ l. rdn_octets b ∷ l) more.1)

pub distinguished_answers : (x y : List (List AttributeTypeAndValue)) → (begins (distinguished_key x) (distinguished_key y) ≡ true) ↔ BeginsWith x y
distinguished_answers x y =
    let keys = directory_answers (map rdn_octets x) (map rdn_octets y) in
    let rdns = first_rdns x y in
    ((λ h. rdns.0 (keys.0 h)), (λ h. keys.1 (rdns.1 h)))

-- ---- as the loops leave them

symbols-all : (xs : List (List ℕ)) → symbols (flat_map rdn_key xs) ≡ flat_map (λ x. symbols (rdn_key x)) xs
symbols-all [] = refl
symbols-all (x ∷ xs) = map-append (λ c. c + 1) (rdn_key x) (flat_map rdn_key xs) ∙ ap (λ l. symbols (rdn_key x) ++ l) (symbols-all xs)

pub attribute_done : (octets key key' start : List ℕ) (n : ℕ) → length octets ≤ n → key ≡ start ++ symbols (symbols (take n octets)) →
    key' ≡ key ++ 1 ∷ [] → key' ≡ start ++ symbols (rdn_key octets)
attribute_done octets key key' start n all is pushed =
    pushed ∙ (ap (λ l. l ++ 1 ∷ []) (is ∙ ap (λ l. start ++ symbols (symbols l)) (take_all n octets all))
    ∙ (append_assoc start (symbols (symbols octets)) (1 ∷ []) ∙ ap (λ l. start ++ l) (sym (map-append (λ c. c + 1) (symbols octets) (stop ∷ [])))))

pub rdn_done : {X : Type 0} (f : X → List ℕ) (xs : List X) (keys : List (List ℕ)) (key key' start : List ℕ) →
    key ≡ start ++ flat_map (λ x. symbols (rdn_key (f x))) xs → map f xs ≡ keys → key' ≡ key ++ stop ∷ [] →
    key' ≡ start ++ rdn_key (directory_key keys)
rdn_done f xs keys key key' start is are pushed =
    let whole : flat_map (λ x. symbols (rdn_key (f x))) xs ≡ symbols (directory_key keys) =
    sym (flat_map-map (λ x. symbols (rdn_key x)) f xs) ∙ (ap (flat_map (λ x. symbols (rdn_key x))) are ∙ sym (symbols-all keys)) in
    pushed ∙ (ap (λ l. l ++ stop ∷ []) (is ∙ ap (λ l. start ++ l) whole) ∙ append_assoc start (symbols (directory_key keys)) (stop ∷ []))
