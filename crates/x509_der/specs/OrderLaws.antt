-- The byte order of elements, by their parts.
use Rattle.std.specs.Prelude.{◌≡◌, ℕ, zero, suc, ◌+◌, ◌/◌, ◌%◌, ◌<◌, ◌≤◌, nat_lt, List, [], ◌∷◌, ◌++◌, length, if◌then◌else◌}
use Rattle.std.specs.Ordering.{nat_cmp, ordering_then}
use Rattle.std.specs.declared.cmp.Ordering.{Ordering}
use Rattle.std.specs.declared.cmp.Ordering.TheVariants.{Less, Equal, Greater}
use Rattle.std.proofs.Common.{cond, true, false, append-nil, refl, sym, ap, ◌∙◌, subst, arith, append_assoc, length-append}
use Rattle.std.proofs.lemmas.Cmp.{ranked, by_ranked}
use Rattle.std.proofs.lemmas.Bool.{ltb-true}
use Rattle.std.proofs.lemmas.Bool.Decides.{nat_tests}
use Rattle.x509_der.specs.Element.{length_octets, element}
use Rattle.x509_der.specs.Order.{bytes_cmp, IsElement}

pub then_assoc : (a b c : Ordering) → ordering_then (ordering_then a b) c ≡ ordering_then a (ordering_then b c)
then_assoc Less b c = refl
then_assoc Equal b c = refl
then_assoc Greater b c = refl

pub then_equal : (o : Ordering) → ordering_then o Equal ≡ o
then_equal Less = refl
then_equal Equal = refl
then_equal Greater = refl

pub then_both : (a b : Ordering) → ordering_then a b ≡ Equal → (a ≡ Equal) × (b ≡ Equal)
then_both Less b e = absurd cc
then_both Equal b e = (refl, e)
then_both Greater b e = absurd cc

pub equal_itself : (n : ℕ) → nat_cmp n n ≡ Equal
equal_itself n = grind (arith, nat_tests)

pub less_from : (n m : ℕ) → n < m → nat_cmp n m ≡ Less
less_from n m h = grind (arith, nat_tests)

pub greater_from : (n m : ℕ) → m < n → nat_cmp n m ≡ Greater
greater_from n m h = grind (arith, nat_tests)

-- lists of one length, and what follows them
pub split_cmp : (a b x y : List ℕ) → length a ≡ length b → bytes_cmp (a ++ x) (b ++ y) ≡ ordering_then (bytes_cmp a b) (bytes_cmp x y)
split_cmp [] [] x y e = refl
split_cmp [] (d ∷ b) x y e = absurd (omega arith)
split_cmp (c ∷ a) [] x y e = absurd (omega arith)
split_cmp (c ∷ a) (d ∷ b) x y e =
    ap (ordering_then (nat_cmp c d)) (split_cmp a b x y (omega arith)) ∙ sym (then_assoc (nat_cmp c d) (bytes_cmp a b) (bytes_cmp x y))

-- ---- digits in base 256

-- k + 1 digits of n; the first has what is left of n
abbrev pub digits : ℕ → ℕ → List ℕ
digits zero n = n ∷ []
digits (suc k) n = digits k (n / 256) ++ n % 256 ∷ []

by_digit : (n m : ℕ) → ordering_then (nat_cmp (n / 256) (m / 256)) (nat_cmp (n % 256) (m % 256)) ≡ nat_cmp n m
by_digit n m = grind (arith, nat_tests)

pub digits_cmp : (k n m : ℕ) (x y : List ℕ) → bytes_cmp (digits k n ++ x) (digits k m ++ y) ≡ ordering_then (nat_cmp n m) (bytes_cmp x y)
digits_cmp zero n m x y = refl
digits_cmp (suc k) n m x y =
    rw (append_assoc (digits k (n / 256)) (n % 256 ∷ []) x, append_assoc (digits k (m / 256)) (m % 256 ∷ []) y)
    (digits_cmp k (n / 256) (m / 256) (n % 256 ∷ x) (m % 256 ∷ y)
    ∙ sym (then_assoc (nat_cmp (n / 256) (m / 256)) (nat_cmp (n % 256) (m % 256)) (bytes_cmp x y))
    ∙ ap (λ o. ordering_then o (bytes_cmp x y)) (by_digit n m))

-- ---- lengths

-- how many digits a length has behind the first
unfoldable more_digits : ℕ → ℕ
more_digits n = if nat_lt n 256 then 0 else (if nat_lt n 65536 then 1 else (if nat_lt n 16777216 then 2 else 3))

more_rises : (n m : ℕ) → more_digits n < more_digits m → n < m
unfolding more_digits
more_rises n m h = grind (arith, nat_tests)

-- two runs of digits behind their counts, where more digits are of the greater number
long_cmp : (k p q n m : ℕ) (x y : List ℕ) → (p < q → n < m) → (q < p → m < n) → ordering_then (nat_cmp (k + p) (k + q)) (bytes_cmp (digits p n ++ x) (digits q m ++ y)) ≡ ordering_then (nat_cmp n m) (bytes_cmp x y)
long_cmp k p q n m x y up down =
    by_ranked (p < q) (p ≡ q) (q < p) (nat_cmp p q) (ranked p q (nat_cmp p q) refl)
    (λ _ h. rw (less_from (k + p) (k + q) (omega arith), less_from n m (up h)))
    (λ _ h. subst (λ r. ordering_then (nat_cmp (k + p) (k + r)) (bytes_cmp (digits p n ++ x) (digits r m ++ y)) ≡ ordering_then (nat_cmp n m) (bytes_cmp x y)) h
    (rw (equal_itself (k + p)) (digits_cmp p n m x y)))
    (λ _ h. rw (greater_from (k + p) (k + q) (omega arith), greater_from n m (down h)))

-- length octets by digits
unfoldable length_digits : ℕ → List ℕ
length_digits n = cond (nat_lt n 128) (n ∷ []) ((129 + more_digits n) ∷ digits (more_digits n) n)

octets_are : (n : ℕ) → length_octets n ≡ length_digits n
unfolding length_octets length_digits more_digits
octets_are n = grind (arith, nat_tests)

digits_cmp_by : (n m : ℕ) (x y : List ℕ) → bytes_cmp (length_digits n ++ x) (length_digits m ++ y) ≡ ordering_then (nat_cmp n m) (bytes_cmp x y)
unfolding length_digits
digits_cmp_by n m x y = elim (nat_lt n 128) as (λ b. nat_lt n 128 ≡ b → bytes_cmp (cond b (n ∷ []) ((129 + more_digits n) ∷ digits (more_digits n) n) ++ x) (length_digits m ++ y) ≡ ordering_then (nat_cmp n m) (bytes_cmp x y)) [
  | true ↦ λ p. elim (nat_lt m 128) as (λ b. nat_lt m 128 ≡ b → bytes_cmp (n ∷ x) (cond b (m ∷ []) ((129 + more_digits m) ∷ digits (more_digits m) m) ++ y) ≡ ordering_then (nat_cmp n m) (bytes_cmp x y)) [
    | true ↦ λ q. refl
    | false ↦ λ q. rw (less_from n (129 + more_digits m) (omega (arith, ltb-true, p)), less_from n m (grind (arith, nat_tests)))
  ] refl
  | false ↦ λ p. elim (nat_lt m 128) as (λ b. nat_lt m 128 ≡ b → bytes_cmp ((129 + more_digits n) ∷ (digits (more_digits n) n ++ x)) (cond b (m ∷ []) ((129 + more_digits m) ∷ digits (more_digits m) m) ++ y) ≡ ordering_then (nat_cmp n m) (bytes_cmp x y)) [
    | true ↦ λ q. rw (greater_from (129 + more_digits n) m (grind (arith, nat_tests)), greater_from n m (grind (arith, nat_tests)))
    | false ↦ λ q. long_cmp 129 (more_digits n) (more_digits m) n m x y (more_rises n m) (more_rises m n)
  ] refl
] refl

-- lengths, and what follows them
lengths_cmp : (n m : ℕ) (x y : List ℕ) → bytes_cmp (length_octets n ++ x) (length_octets m ++ y) ≡ ordering_then (nat_cmp n m) (bytes_cmp x y)
lengths_cmp n m x y = rw (octets_are n, octets_are m) (digits_cmp_by n m x y)

-- ---- elements

-- elements, and what follows them: by identifier, by length, by content
elements_cmp : (t u : ℕ) (c d x y : List ℕ) → bytes_cmp (element t c ++ x) (element u d ++ y) ≡ ordering_then (nat_cmp t u) (ordering_then (nat_cmp (length c) (length d)) (ordering_then (bytes_cmp c d) (bytes_cmp x y)))
unfolding element
elements_cmp t u c d x y =
    ap (ordering_then (nat_cmp t u))
    (rw (append_assoc (length_octets (length c)) c x, append_assoc (length_octets (length d)) d y)
    (lengths_cmp (length c) (length d) (c ++ x) (d ++ y)
    ∙ by_ranked (length c < length d) (length c ≡ length d) (length d < length c) (nat_cmp (length c) (length d)) (ranked (length c) (length d) _ refl)
    (λ e _. rw e)
    (λ e h. ap (ordering_then (nat_cmp (length c) (length d))) (split_cmp c d x y h))
    (λ e _. rw e)))

pub element_cmp : (t u : ℕ) (c d : List ℕ) → bytes_cmp (element t c) (element u d) ≡ ordering_then (nat_cmp t u) (ordering_then (nat_cmp (length c) (length d)) (bytes_cmp c d))
element_cmp t u c d =
    let e = elements_cmp t u c d [] [] in
    rw (← append-nil (element t c), ← append-nil (element u d)) (e ∙ ap (λ o. ordering_then (nat_cmp t u) (ordering_then (nat_cmp (length c) (length d)) o)) (then_equal (bytes_cmp c d)))

-- elements and what follows them: by the element first
pub joined_cmp : (a b : List ℕ) → IsElement a → IsElement b → (x y : List ℕ) → bytes_cmp (a ++ x) (b ++ y) ≡ ordering_then (bytes_cmp a b) (bytes_cmp x y)
joined_cmp a b p q x y =
    let r = nat_cmp p.tag q.tag in
    let l = nat_cmp (length p.content) (length q.content) in
    let k = bytes_cmp p.content q.content in
    let rest = bytes_cmp x y in
    let same : bytes_cmp a b ≡ ordering_then r (ordering_then l k) = rw (p.is, q.is) (element_cmp p.tag q.tag p.content q.content) in
    let all : bytes_cmp (a ++ x) (b ++ y) ≡ ordering_then r (ordering_then l (ordering_then k rest)) = rw (p.is, q.is) (elements_cmp p.tag q.tag p.content q.content x y) in
    all ∙ ap (ordering_then r) (sym (then_assoc l k rest)) ∙ sym (then_assoc r (ordering_then l k) rest) ∙ ap (λ o. ordering_then o rest) (sym same)

-- nothing comes before an element
pub nothing_first : (s x : List ℕ) → IsElement s → bytes_cmp [] (s ++ x) ≡ Less
unfolding element
nothing_first s x p = rw p.is

pub nothing_last : (s x : List ℕ) → IsElement s → bytes_cmp (s ++ x) [] ≡ Greater
unfolding element
nothing_last s x p = rw p.is

-- a part of an element's content is no longer than the element
pub part_length : (tag : ℕ) (a b : List ℕ) (most : ℕ) → length (element tag (a ++ b)) ≤ most → (length a ≤ most) × (length b ≤ most)
unfolding element
part_length tag a b most h = (omega (arith, h, length-append (length_octets (length (a ++ b))) (a ++ b), length-append a b), omega (arith, h, length-append (length_octets (length (a ++ b))) (a ++ b), length-append a b))

pub content_length : (tag : ℕ) (content : List ℕ) (most : ℕ) → length (element tag content) ≤ most → length content ≤ most
unfolding element
content_length tag content most h = omega (arith, h, length-append (length_octets (length content)) content)
