-- Keys that begin with others, in the order of words.
use Rattle.std.proofs.Common.{if◌then◌else◌, ◌==◌, nat_lt, nat_eq, take, ◌≡◌, ℕ, Bool, true, false, List, [], ◌∷◌, length, refl, arith}
use Rattle.std.proofs.lemmas.Bool.Decides.{nat_tests}
use Rattle.std.proofs.lemmas.Cmp.{same_from_slice_cmp}
use Rattle.std.specs.Cmp.Lexicographic.{pointwise, slice_cmp}
use Rattle.std.specs.declared.cmp.Ordering.{Ordering}
use Rattle.std.specs.Ordering.{is_le, is_lt, nat_cmp}
use Rattle.x509_constraints.specs.Prefixes.{begins, forks, upto}

pub is_upto : (xs ys : List ℕ) (o : Ordering) → o ≡ slice_cmp nat_cmp xs ys → is_le o ≡ upto xs ys
is_upto = same_from_slice_cmp nat_cmp is_le upto refl (λ _ _. refl) (λ _ _. refl) (λ x y xs ys o h. grind (arith, nat_tests))

-- the first key is before the second
abbrev pub below : List ℕ → List ℕ → Bool
below [] [] = false
below [] (y ∷ ys) = true
below (x ∷ xs) [] = false
below (x ∷ xs) (y ∷ ys) = if x == y then below xs ys else nat_lt x y

pub is_below : (xs ys : List ℕ) (o : Ordering) → o ≡ slice_cmp nat_cmp xs ys → is_lt o ≡ below xs ys
is_below = same_from_slice_cmp nat_cmp is_lt below refl (λ _ _. refl) (λ _ _. refl) (λ x y xs ys o h. grind (arith, nat_tests))

pub upto-not_below : (xs ys : List ℕ) → below ys xs ≡ false → upto xs ys ≡ true
upto-not_below [] ys h = refl
upto-not_below (x ∷ xs) [] h = cc
upto-not_below (x ∷ xs) (y ∷ ys) h = grind (arith, nat_tests, upto-not_below xs ys)

pub begins-itself : (key : List ℕ) → begins key key ≡ true
begins-itself [] = refl
begins-itself (x ∷ xs) = grind (arith, nat_tests, begins-itself xs)

-- a key is behind what it begins with
pub upto-begins : (key p : List ℕ) → begins key p ≡ true → upto p key ≡ true
upto-begins key [] h = refl
upto-begins [] (p ∷ ps) h = cc
upto-begins (x ∷ xs) (p ∷ ps) h = grind (arith, nat_tests, upto-begins xs ps)

pub begins-trans : (a b c : List ℕ) → begins a b ≡ true → begins b c ≡ true → begins a c ≡ true
begins-trans a b [] h k = refl
begins-trans a [] (z ∷ zs) h k = cc
begins-trans [] (y ∷ ys) (z ∷ zs) h k = cc
begins-trans (x ∷ xs) (y ∷ ys) (z ∷ zs) h k = grind (arith, nat_tests, begins-trans xs ys zs)

pub forks-trans : (a b c : List ℕ) → forks a b ≡ true → forks b c ≡ true → forks a c ≡ true
forks-trans [] b c h k = cc
forks-trans (x ∷ xs) [] c h k = cc
forks-trans (x ∷ xs) (y ∷ ys) [] h k = cc
forks-trans (x ∷ xs) (y ∷ ys) (z ∷ zs) h k = grind (arith, nat_tests, forks-trans xs ys zs)

pub upto-trans : (a b c : List ℕ) → upto a b ≡ true → upto b c ≡ true → upto a c ≡ true
upto-trans [] b c h k = refl
upto-trans (x ∷ xs) [] c h k = cc
upto-trans (x ∷ xs) (y ∷ ys) [] h k = cc
upto-trans (x ∷ xs) (y ∷ ys) (z ∷ zs) h k = grind (arith, nat_tests, upto-trans xs ys zs)

-- a later key begins with an earlier one, or forks from it
pub forks-upto : (a b : List ℕ) → upto a b ≡ true → begins b a ≡ false → forks a b ≡ true
forks-upto [] b h k = cc
forks-upto (x ∷ xs) [] h k = cc
forks-upto (x ∷ xs) (y ∷ ys) h k = grind (arith, nat_tests, forks-upto xs ys)

-- what begins with the first of two that fork is before the second
pub begins-first : (a b key : List ℕ) → forks a b ≡ true → begins key a ≡ true → upto b key ≡ false
begins-first [] b key h k = cc
begins-first (x ∷ xs) [] key h k = cc
begins-first (x ∷ xs) (y ∷ ys) [] h k = cc
begins-first (x ∷ xs) (y ∷ ys) (z ∷ zs) h k = grind (arith, nat_tests, begins-first xs ys zs)

-- what begins with the second of two that fork is behind the first
pub begins-second : (a b key : List ℕ) → forks a b ≡ true → begins key b ≡ true → upto a key ≡ true
begins-second [] b key h k = refl
begins-second (x ∷ xs) [] key h k = cc
begins-second (x ∷ xs) (y ∷ ys) [] h k = cc
begins-second (x ∷ xs) (y ∷ ys) (z ∷ zs) h k = grind (arith, nat_tests, begins-second xs ys zs)

-- what `starts_with` says of slices
pub begins-pointwise : (key p : List ℕ) → pointwise nat_eq p (take (length p) key) ≡ begins key p
begins-pointwise key [] = refl
begins-pointwise [] (p ∷ ps) = refl
begins-pointwise (x ∷ xs) (p ∷ ps) = grind (arith, nat_tests, begins-pointwise xs ps)
