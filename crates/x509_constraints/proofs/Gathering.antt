-- The prefixes of subtrees, as loops gather them.
use Rattle.std.proofs.Common.{◌≡◌, ℕ, ◌+◌, ◌<◌, ◌≤◌, List, [], ◌∷◌, ◌++◌, map, take, length, get_or, sym, ap, ◌∙◌, add-one, append_assoc}
use Rattle.std.proofs.lemmas.List.{append-nil, take_all, take_more}
use Rattle.std.specs.List.{flat_map}
use Rattle.x509_ext.specs.declared.pkix.general_subtree.GeneralSubtree.{GeneralSubtree}
use Rattle.x509_constraints.specs.Constraints.{form_of}
use Rattle.x509_constraints.specs.SubtreeKeys.{base_prefixes, excluded_by, excluded_prefixes, open_below, open_form, own_excluded, own_prefixes, prefixes_of}

flat_map-push : {X : Type 0} (f : X → List (List ℕ)) (xs : List X) (x : X) → flat_map f (xs ++ x ∷ []) ≡ flat_map f xs ++ f x
flat_map-push f [] x = append-nil (f x)
flat_map-push f (y ∷ xs) x = ap (λ l. f y ++ l) (flat_map-push f xs x) ∙ sym (append_assoc (f y) (flat_map f xs) (f x))

-- one more item of a list of which each has some keys
pub gather_more : {X : Type 0} (f : X → List (List ℕ)) (xs : List X) (i : ℕ) (item : X) (start so_far more : List (List ℕ)) → i < length xs →
    item ≡ get_or xs i item → so_far ≡ start ++ flat_map f (take i xs) → more ≡ so_far ++ f item → more ≡ start ++ flat_map f (take (i + 1) xs)
gather_more f xs i item start so_far more inside at so is =
    let longer : take (i + 1) xs ≡ take i xs ++ item ∷ [] = take_more xs i item inside ∙ ap (λ z. take i xs ++ z ∷ []) (sym at) in
    is ∙ (ap (λ l. l ++ f item) so ∙ (append_assoc start (flat_map f (take i xs)) (f item)
    ∙ ap (λ l. start ++ l) (sym (flat_map-push f (take i xs) item) ∙ ap (flat_map f) (sym longer))))

pub gather_done : {X : Type 0} (f : X → List (List ℕ)) (xs : List X) (n : ℕ) (start so_far : List (List ℕ)) → length xs ≤ n →
    so_far ≡ start ++ flat_map f (take n xs) → so_far ≡ start ++ flat_map f xs
gather_done f xs n start so_far whole so = so ∙ ap (λ l. start ++ flat_map f l) (take_all n xs whole)

pub open_more : (subtrees : List GeneralSubtree) (start prefixes more : List (List ℕ)) (form : ℕ) → prefixes ≡ start ++ open_below subtrees form →
    more ≡ prefixes ++ open_form subtrees form → more ≡ start ++ open_below subtrees (form + 1)
open_more subtrees start prefixes more form so_far pushed =
    pushed ∙ (ap (λ l. l ++ open_form subtrees form) so_far ∙ (append_assoc start (open_below subtrees form) (open_form subtrees form)
    ∙ ap (λ n. start ++ open_below subtrees n) (sym (add-one form))))
