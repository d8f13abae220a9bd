-- Parts written one after the other with a separator between, and what holds of each of them.
use Rattle.std.proofs.Common.{◌+◌, ◌<◌, ◌≡◌, ◌≢◌, ℕ, List, [], ◌∷◌, ◌++◌, length, get_or, map, reverse, take, refl, sym, ap, ◌∙◌, arith, subst, append_assoc, length-append}
use Rattle.std.specs.List.{AllByRecursion, join_with_byte}
use Rattle.std.specs.Fmt.{HasWritten}
use Rattle.std.specs.declared.fmt.Formatter.{Formatter}
use Rattle.std.proofs.Output.{has_written_append, has_written_of_eq}
use Rattle.std.proofs.lemmas.List.{take_more, map_push, length-map, length-take, reverse-append}

-- ---- what holds of each

pub all_map : {X Y : Type 0} (P : Y → Type 0) (f : X → Y) → ((x : X) → P (f x)) → (xs : List X) → AllByRecursion P (map f xs)
all_map P f each [] = tt
all_map P f each (x ∷ xs) = (each x, all_map P f each xs)

pub all_append : {X : Type 0} (P : X → Type 0) (xs ys : List X) → AllByRecursion P xs → AllByRecursion P ys → AllByRecursion P (xs ++ ys)
all_append P [] ys p q = q
all_append P (x ∷ xs) ys p q = (p.0, all_append P xs ys p.1 q)

pub all_reverse : {X : Type 0} (P : X → Type 0) (xs : List X) → AllByRecursion P xs → AllByRecursion P (reverse xs)
all_reverse P [] p = tt
all_reverse P (x ∷ xs) p = subst (AllByRecursion P) (sym (reverse-append (x ∷ []) xs)) (all_append P (reverse xs) (x ∷ []) (all_reverse P xs p.1) (p.0, tt))

pub some_map : {X Y : Type 0} (f : X → Y) (xs : List X) → xs ≢ [] → 0 < length (map f xs)
some_map f [] h = absurd (h refl)
some_map f (x ∷ xs) h = omega arith

-- ---- joined

-- parts of which the first isn't empty join to a text that isn't
pub some_join : (separator : ℕ) (part : List ℕ) (parts : List (List ℕ)) → 0 < length part → 0 < length (join_with_byte separator (part ∷ parts))
some_join separator part [] h = h
some_join separator part (next ∷ parts) h = omega (arith, length-append part (separator ∷ join_with_byte separator (next ∷ parts)))

pub join_push : (separator : ℕ) (parts : List (List ℕ)) (part : List ℕ) → 0 < length parts → join_with_byte separator (parts ++ part ∷ []) ≡ join_with_byte separator parts ++ separator ∷ part
join_push separator [] part h = absurd (omega arith)
join_push separator (first ∷ []) part h = refl
join_push separator (first ∷ next ∷ parts) part h =
    ap (λ (t : List ℕ). first ++ separator ∷ t) (join_push separator (next ∷ parts) part (omega arith)) ∙ sym (append_assoc first (separator ∷ join_with_byte separator (next ∷ parts)) (separator ∷ part))

-- ---- a loop that writes the text of each value, with the separator before each but the first: the values up to an index

module _ {X : Type 0} (separator : ℕ) (text : X → List ℕ) (xs : List X) (i : ℕ) (past : X) (lt : i < length xs) where
  mapped : map text (take (i + 1) xs) ≡ map text (take i xs) ++ text (get_or xs i past) ∷ []
  mapped = ap (map text) (take_more xs i past lt) ∙ map_push text (take i xs) (get_or xs i past)

  pub join_first : i ≡ 0 → join_with_byte separator (map text (take i xs)) ++ text (get_or xs i past) ≡ join_with_byte separator (map text (take (i + 1) xs))
  join_first is =
      let none : map text (take i xs) ≡ [] = rw is refl in
      ap (λ (t : List (List ℕ)). join_with_byte separator t ++ text (get_or xs i past)) none
      ∙ ap (λ (t : List (List ℕ)). join_with_byte separator (t ++ text (get_or xs i past) ∷ [])) (sym none) ∙ ap (join_with_byte separator) (sym mapped)

  pub join_next : 0 < i → join_with_byte separator (map text (take i xs)) ++ separator ∷ text (get_or xs i past) ≡ join_with_byte separator (map text (take (i + 1) xs))
  join_next some =
      let count : 0 < length (map text (take i xs)) = omega (arith, length-map (take i xs) text, length-take i xs) in
      sym (join_push separator (map text (take i xs)) (text (get_or xs i past)) count) ∙ ap (join_with_byte separator) (sym mapped)

-- the same of what a formatter has written; the value at the index is x
module _ {W X : Type 0} (took : W → List ℕ → W → Type 0) (separator : ℕ) (text : X → List ℕ) (xs : List X) (i : ℕ) (x : X) (lt : i < length xs) (at : x ≡ get_or xs i x) (f g h : Formatter W) (so_far : HasWritten took f (join_with_byte separator (map text (take i xs))) g) where
  pub written_first : i ≡ 0 → HasWritten took g (text x) h → HasWritten took f (join_with_byte separator (map text (take (i + 1) xs))) h
  written_first is now =
      has_written_of_eq took f _ _ h (join_first separator text xs i x lt is)
      (has_written_append took f _ g _ h so_far (subst (λ y. HasWritten took g (text y) h) at now))

  pub written_next : 0 < i → (between : Formatter W) → HasWritten took g (separator ∷ []) between → HasWritten took between (text x) h
      → HasWritten took f (join_with_byte separator (map text (take (i + 1) xs))) h
  written_next some between mark now =
      has_written_of_eq took f _ _ h (join_next separator text xs i x lt some)
      (has_written_append took f _ g _ h so_far (has_written_append took g _ between _ h mark (subst (λ y. HasWritten took between (text y) h) at now)))
