-- The labels of a name, one after the other.
use Rattle.std.proofs.Common.{◌≡◌, ◌<◌, ◌||◌, ℕ, Bool, false, true, List, [], ◌∷◌, ◌++◌, length, drop, get_or, add-one}
use Rattle.std.proofs.Math.Seq.{drop-cons, drop-length}
use Rattle.std.proofs.lemmas.List.{length_push}
use Rattle.std.specs.List.{list_any}

-- what a test says of all labels is what it says of those that are left
pub record LeavesTo (test : List ℕ → Bool) (labels : List (List ℕ)) (left : List (List ℕ)) : Type 0 where
  pub so : list_any test left ≡ list_any test labels

-- the next label, behind others
pub at_label : {X : Type 0} (test : List ℕ → Bool) (labels : List (List ℕ)) (given : List ℕ) (others : List X) (item : X) → (length others < length labels) × (given ≡ get_or labels (length others) given)
    → LeavesTo test labels (drop (length others) labels) → LeavesTo test labels (given ∷ drop (length (others ++ item ∷ [])) labels)
at_label test labels given others item turn h = rw (length_push others item, add-one (length others), turn.1) (rw (drop-cons labels (length others) given turn.0) at h)

-- it isn't one of those that are looked for
pub past_label : (test : List ℕ → Bool) (labels : List (List ℕ)) (given : List ℕ) (left : List (List ℕ)) → test given ≡ false → LeavesTo test labels (given ∷ left) → LeavesTo test labels left
past_label test labels given left none h = record { so = rw none at h.so }

-- behind the last label
pub past_all : (test : List ℕ → Bool) (labels : List (List ℕ)) (n : ℕ) → n ≡ length labels → LeavesTo test labels (drop n labels) → false ≡ list_any test labels
past_all test labels n is h =
    let last : LeavesTo test labels [] = rw (is, drop-length labels) at h in
    last.so

-- it is one of those that are looked for
pub at_one : (test : List ℕ → Bool) (labels : List (List ℕ)) (given : List ℕ) (left : List (List ℕ)) → test given ≡ true → LeavesTo test labels (given ∷ left) → true ≡ list_any test labels
at_one test labels given left it h = let so : (test given || list_any test left) ≡ list_any test labels = h.so in rw it at so
