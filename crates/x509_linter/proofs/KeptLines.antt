-- Lines that are kept one after the other.
use Rattle.std.proofs.Common.{◌≡◌, ℕ, List, [], ◌∷◌, ◌++◌, Option, sym, ◌∙◌, append_assoc, append-nil, ◌<◌, length, drop, get_or, add-one}
use Rattle.std.proofs.Math.Seq.{drop-cons, drop-length}
use Rattle.std.proofs.lemmas.List.{length_push}
use Rattle.x509_linter.specs.Lines.{kept_line, kept_lines, lines_of}

-- what all lines come to, where the first are kept and these are left
pub record KeptSo (options : List (List ℕ)) (front : Option ℕ) (whole kept : List ℕ) (rest : List (List ℕ)) : Type 0 where
  pub so : whole ≡ kept ++ kept_lines options front rest

module _ (options : List (List ℕ)) (front : Option ℕ) (whole : List ℕ) where
  -- one line more
  pub after_line : (kept line : List ℕ) (rest : List (List ℕ)) → KeptSo options front whole kept (line ∷ rest) → KeptSo options front whole (kept ++ kept_line options front line) rest
  after_line kept line rest h = record { so = h.so ∙ sym (append_assoc kept (kept_line options front line) (kept_lines options front rest)) }

  -- the next line of a text, behind others
  pub at_line : {X : Type 0} (text given : List ℕ) (others : List X) (item : X) (kept : List ℕ) → (length others < length (lines_of text)) × (given ≡ get_or (lines_of text) (length others) given) → KeptSo options front whole kept (drop (length others) (lines_of text)) → KeptSo options front whole kept (given ∷ drop (length (others ++ item ∷ [])) (lines_of text))
  at_line text given others item kept turn h = rw (length_push others item, add-one (length others), turn.1) (rw (drop-cons (lines_of text) (length others) given turn.0) at h)

  -- behind the last line of a text
  pub at_end : (text : List ℕ) (n : ℕ) (kept : List ℕ) → n ≡ length (lines_of text) → KeptSo options front whole kept (drop n (lines_of text)) → kept ≡ whole
  at_end text n kept is h =
      let last : KeptSo options front whole kept [] = rw (is, drop-length (lines_of text)) at h in
      sym (last.so ∙ append-nil kept)
