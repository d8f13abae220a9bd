-- Certificates that are lent, one after the other.
use Rattle.std.proofs.Common.{◌≡◌, ◌∙◌, ◌≤◌, ◌-◌, ◌+◌, ℕ, List, [], ◌∷◌, ◌++◌, map, take, length, get_or, ap, sym, arith}
use Rattle.std.proofs.lemmas.List.{map_push, take_all, take_more}
use Rattle.std.specs.List.{AllZip}

module _ {X : Type 0} (bytes_of : X → List ℕ) where
  -- one that stands at the end
  pub with_last : (xs : List X) (d : X) → 1 ≤ length xs → d ≡ get_or xs (length xs - 1) d → map bytes_of xs ≡ map bytes_of (take (length xs - 1) xs) ++ bytes_of d ∷ []
  with_last xs d some is =
      let n = length xs - 1 in
      let whole : take (n + 1) xs ≡ xs = take_all (n + 1) xs (omega (arith, some)) in
      ap (map bytes_of) (sym whole ∙ take_more xs n d (omega (arith, some))) ∙ map_push bytes_of (take n xs) (get_or xs n d)
      ∙ ap (λ (x : X). map bytes_of (take n xs) ++ bytes_of x ∷ []) (sym is)

  -- what holds of the bytes of each
  pub zip_of_bytes : {Y : Type 0} (R : List ℕ → Y → Type 0) (xs : List X) (ys : List Y) → AllZip (λ x. R (bytes_of x)) xs ys → AllZip R (map bytes_of xs) ys
  zip_of_bytes R [] [] all = tt
  zip_of_bytes R [] (y ∷ ys) all = absurd all
  zip_of_bytes R (x ∷ xs) [] all = absurd all
  zip_of_bytes R (x ∷ xs) (y ∷ ys) all = (all.0, zip_of_bytes R xs ys all.1)
