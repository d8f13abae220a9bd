-- Lines that are taken, and told of, one after the other.
use Rattle.std.proofs.Common.{◌≡◌, ℕ, List, [], ◌∷◌, ◌++◌, sym, ◌∙◌, append_assoc, append-nil, ◌<◌, length, drop, get_or, add-one}
use Rattle.std.proofs.Math.Seq.{drop-cons, drop-length}
use Rattle.std.proofs.lemmas.List.{length_push}
use Rattle.std.specs.List.{flat_map}
use Rattle.x509_linter.specs.Summary.{entry_for, tally_of, told_with, whole_line}

-- what all lines come to, where the first are taken and these are left
pub record TakenSo (whole taken rest : List (List ℕ)) : Type 0 where
  pub so : whole ≡ taken ++ flat_map whole_line rest

-- one line more
pub after_line : (whole taken : List (List ℕ)) (line : List ℕ) (rest : List (List ℕ)) → TakenSo whole taken (line ∷ rest) → TakenSo whole (taken ++ whole_line line) rest
after_line whole taken line rest h = record { so = h.so ∙ sym (append_assoc taken (whole_line line) (flat_map whole_line rest)) }

-- the next line, behind others
pub at_line : {X : Type 0} (whole lines : List (List ℕ)) (given : List ℕ) (others : List X) (item : X) (taken : List (List ℕ)) → (length others < length lines) × (given ≡ get_or lines (length others) given) → TakenSo whole taken (drop (length others) lines) → TakenSo whole taken (given ∷ drop (length (others ++ item ∷ [])) lines)
at_line whole lines given others item taken turn h = rw (length_push others item, add-one (length others), turn.1) (rw (drop-cons lines (length others) given turn.0) at h)

-- behind the last line
pub at_end : (whole lines : List (List ℕ)) (n : ℕ) (taken : List (List ℕ)) → n ≡ length lines → TakenSo whole taken (drop n lines) → taken ≡ whole
at_end whole lines n taken is h =
    let last : TakenSo whole taken [] = rw (is, drop-length lines) at h in
    sym (last.so ∙ append-nil taken)

-- what is told of all lines, where it is told of the first and these are left
pub record ToldSo (lines : List (List ℕ)) (whole text : List ℕ) (told rest : List (List ℕ)) : Type 0 where
  pub so : whole ≡ text ++ tally_of lines told rest

pub after_told : (lines : List (List ℕ)) (whole text : List ℕ) (told : List (List ℕ)) (line : List ℕ) (rest : List (List ℕ)) → ToldSo lines whole text told (line ∷ rest) → ToldSo lines whole (text ++ entry_for lines told line) (told_with told line) rest
after_told lines whole text told line rest h = record { so = h.so ∙ sym (append_assoc text (entry_for lines told line) (tally_of lines (told_with told line) rest)) }

pub at_last : (lines : List (List ℕ)) (whole text : List ℕ) (told : List (List ℕ)) → ToldSo lines whole text told [] → text ≡ whole
at_last lines whole text told h = sym (h.so ∙ append-nil text)
