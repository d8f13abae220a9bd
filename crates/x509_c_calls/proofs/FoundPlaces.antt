-- What is told of a path that was found.
use Rattle.std.proofs.Common.{◌≡◌, ◌∙◌, Bor, ℕ, zero, suc, ◌+◌, ◌-◌, ◌<◌, List, [], ◌∷◌, ◌++◌, get_or, length, map, take, ap, subst, sym, arith, length-append}
use Rattle.std.proofs.Math.Seq.{take-append_seam}
use Rattle.std.proofs.lemmas.List.{length-map, map_more, map_push, take-map, take_more}
use Rattle.std.specs.List.{AllZip, Contains}
use Rattle.x509_c_calls.specs.PathFinding.{GivesTrusted}
use Rattle.x509_c_calls.specs.PathValidation.{AreTold}
use Rattle.x509_path.proofs.Along.{zip_push}
use Rattle.x509_path_steps.specs.declared.trusted.Trusted.{Trusted}
use Rattle.x509_verify.specs.Found.{octets}
use Rattle.x509_verify.specs.Named.{IsNamed}

-- one more of a list that is mapped twice
pub mapped_more : {X Y Z : Type 0} (f : X → Y) (g : Y → Z) (xs : List X) (i : ℕ) (d : X) → i < length xs
    → map g (map f (take (i + 1) xs)) ≡ map g (map f (take i xs)) ++ g (f (get_or xs i d)) ∷ []
mapped_more f g xs i d less = ap (map g) (map_more f xs i d less) ∙ map_push g (map f (take i xs)) (f (get_or xs i d))

-- what stands above the last one of a path
pub all_above : (path : List (Bor (List ℕ))) (above : List (List ℕ)) (leaf : List ℕ) → octets path ≡ above ++ leaf ∷ [] → octets (take (length path - 1) path) ≡ above
all_above path above leaf whole =
    let many : length path - 1 ≡ length above = omega (arith, length-map path (λ (one : Bor (List ℕ)). one.now), ap length whole, length-append above (leaf ∷ [])) in
    sym (take-map (λ (one : Bor (List ℕ)). one.now) (length path - 1) path) ∙ ap (take (length path - 1)) whole ∙ ap (λ n. take n (above ++ leaf ∷ [])) many
    ∙ take-append_seam above (leaf ∷ [])

-- what is told of it, where the list that is told is what stands above
pub told_above : (f : List ℕ → ℕ) (path lent : List (Bor (List ℕ))) (above : List (List ℕ)) (leaf room filled : List ℕ) (count : ℕ) → lent ≡ path → octets path ≡ above ++ leaf ∷ []
    → AreTold (map f (octets (take (length lent - 1) lent))) room filled count → AreTold (map f above) room filled count
told_above f path lent above leaf room filled count same whole told =
    subst (λ xs. AreTold (map f xs) room filled count) (ap (λ xs. octets (take (length xs - 1) xs)) same ∙ all_above path above leaf whole) told

-- what certificates give has a name
pub are_named : (anchors : List (List ℕ)) (given : List Trusted) → AllZip GivesTrusted anchors given → (one : Trusted) → Contains given one → IsNamed one
are_named [] [] each one (i, less, is) = absurd (omega (arith, less))
are_named [] (first ∷ given) never one among = absurd never
are_named (bytes ∷ anchors) [] never one among = absurd never
are_named (bytes ∷ anchors) (first ∷ given) each one (zero, less, is) =
    let (c, trust, spells, trusted, lends) = each.0 in
    subst IsNamed is (trust.anchor.name, lends.anchor.0)
are_named (bytes ∷ anchors) (first ∷ given) each one (suc i, less, is) = are_named anchors given each.1 one (i, omega (arith, less), is)

-- one pair more of two lists, the first of which is mapped
pub zip_more : {X A B : Type 0} (f : X → A) (R : A → B → Type 0) (xs : List X) (i : ℕ) (d : X) (ys zs : List B) (y : B) → i < length xs
    → AllZip R (map f (take i xs)) ys → R (f (get_or xs i d)) y → zs ≡ ys ++ y ∷ [] → AllZip R (map f (take (i + 1) xs)) zs
zip_more f R xs i d ys zs y less are one is =
    subst (λ us. AllZip R us zs) (sym (map_more f xs i d less))
    (subst (λ vs. AllZip R (map f (take i xs) ++ f (get_or xs i d) ∷ []) vs) (sym is) (zip_push R (map f (take i xs)) ys (f (get_or xs i d)) y are one))

-- so of the list itself
pub pairs_more : {A B : Type 0} (R : A → B → Type 0) (xs : List A) (i : ℕ) (d : A) (ys zs : List B) (y : B) → i < length xs
    → AllZip R (take i xs) ys → R (get_or xs i d) y → zs ≡ ys ++ y ∷ [] → AllZip R (take (i + 1) xs) zs
pairs_more R xs i d ys zs y less are one is =
    subst (λ us. AllZip R us zs) (sym (take_more xs i d less))
    (subst (λ vs. AllZip R (take i xs ++ get_or xs i d ∷ []) vs) (sym is) (zip_push R (take i xs) ys (get_or xs i d) y are one))
