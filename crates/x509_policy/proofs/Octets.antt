-- Going over policies behind references.
use Rattle.std.proofs.Common.{◌≡◌, ◌∙◌, ℕ, suc, ◌+◌, ◌<◌, ◌≤◌, ◌||◌, Bool, true, false, List, [], ◌∷◌, length, drop, get_or, refl, ap, sym, arith}
use Rattle.std.proofs.Math.Seq.{drop-cons}
use Rattle.std.proofs.lemmas.List.{drop_all}
use Rattle.std.specs.Borrow.{Bor}
use Rattle.std.specs.Str.{bytes_eq}
use Rattle.x509_policy.specs.Values.{Policy, has}
use Rattle.x509_policy.specs.Views.{octets_of}

pub has-first : (q : Policy) (ps : List Policy) (p : Policy) → has (q ∷ ps) p ≡ (bytes_eq q p || has ps p)
unfolding has
has-first q ps p = refl

pub has-none : (p : Policy) → has [] p ≡ false
unfolding has
has-none p = refl

next : (i : ℕ) → suc i ≡ i + 1
next i = omega arith

-- at a place of a list of policies
module _ (xs : List (Bor (List ℕ))) (i : ℕ) (d : Bor (List ℕ)) (within : i < length xs) where
  front : drop i xs ≡ get_or xs i d ∷ drop (i + 1) xs
  front = drop-cons xs i d within ∙ ap (λ n. get_or xs i d ∷ drop n xs) (next i)

  pub has_left : (p : Policy) → has (octets_of (drop i xs)) p ≡ (bytes_eq (get_or xs i d).now p || has (octets_of (drop (i + 1) xs)) p)
  has_left p = ap (λ ys. has (octets_of ys) p) front ∙ has-first (get_or xs i d).now (octets_of (drop (i + 1) xs)) p

-- ---- a step of a loop that looks for one

pub found : (all here first rest : Bool) → all ≡ here → here ≡ (first || rest) → first ≡ true → true ≡ all
found all here true rest e f h = sym (e ∙ f)
found all here false rest e f h = h' (e ∙ f) h
  where
    h' : all ≡ rest → false ≡ true → true ≡ all
    h' a b = cc

pub kept : (all here first rest : Bool) → all ≡ here → here ≡ (first || rest) → first ≡ false → all ≡ rest
kept all here true rest e f h = h' h
  where
    h' : true ≡ false → all ≡ rest
    h' b = cc
kept all here false rest e f h = e ∙ f

past : {X : Type 0} (xs : List X) (i : ℕ) → length xs ≤ i → drop i xs ≡ []
past xs i h = drop_all i xs h

pub has_past : (xs : List (Bor (List ℕ))) (i : ℕ) (p : Policy) → length xs ≤ i → has (octets_of (drop i xs)) p ≡ false
has_past xs i p h = ap (λ ys. has (octets_of ys) p) (past xs i h) ∙ has-none p
