-- The parts of a text that are read from the left: all of them read, or the first that doesn't.
use Rattle.std.proofs.Common.{◌⊎◌, ◌≡◌, ℕ, false, List, ◌∷◌, inl, inr}
use Rattle.x509_der.specs.declared.error.ErrorKind.{ErrorKind}
use Rattle.x509_name.specs.Parts.{Joined}
use Rattle.x509_name.specs.Cutting.{cut}
use Rattle.x509_name.specs.Refusals.{FirstRefused}
use Rattle.x509_name.proofs.Cuts.{cut_is_joined}
use Rattle.x509_name.proofs.FirstRefusals.{ReadSoFar, read_refused}

module _ {Y : Type 0} (reads : List ℕ → Y → Type 0) (separator : ℕ) (text : List ℕ) (left : List (List ℕ)) (values : List Y) (so_far : ReadSoFar reads (cut separator text false) left values) where
  -- the next part is refused, or something else is the reason
  pub parts_refused : (part : List ℕ) (rest : List (List ℕ)) → left ≡ part ∷ rest → (refused : List ℕ → ErrorKind → Type 0) (kind : ErrorKind) (other : Type 0)
      → other ⊎ refused part kind → other ⊎ ((parts : List (List ℕ)) × Joined separator parts text × FirstRefused reads refused parts kind)
  parts_refused part rest gives refused kind other (inl q) = inl q
  parts_refused part rest gives refused kind other (inr q) =
      inr (cut separator text false, cut_is_joined separator text, read_refused reads _ left rest values part so_far gives refused kind q)
