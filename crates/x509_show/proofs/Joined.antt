-- Texts that are written one after the other.
use Rattle.std.proofs.Common.{◌≡◌, inr, ℕ, List, [], ◌++◌, Option, Some, None, Ok, Err, refl, sym, ap, subst, ◌∙◌, append-nil}
use Rattle.x509_object_run.specs.Object.{IsPrinted}
use Rattle.x509_object_run.specs.declared.fault.PrintError.TheVariants.{Unwritten, Memory}
use Rattle.x509_show.specs.Show.{IsDocument}
use Rattle.x509_tool_run.specs.Program.{IsCutOff, IsWritten}
use Rattle.x509_tool_run.proofs.Writes.{cut_off_behind}

module _ {S : Type 0} (step : S → Option (List ℕ) → S → Type 0) (s : S) (heading document : List ℕ) where
  -- the heading can't be written
  pub unheaded : (t : S) → IsCutOff step s (heading ++ []) t → IsPrinted (IsDocument heading (Some document)) (Some document ≡ None) step s t (Err Unwritten)
  unheaded t k =
      (heading ++ document, 0, (refl, refl), subst (λ text. IsCutOff step s text t) (ap (λ xs. xs ++ document) (append-nil heading)) (cut_off_behind step s s t [] (0, (refl, refl)) (heading ++ []) document k))

  module _ (u : S) (front left : List ℕ) (h : IsWritten step s front u) (all : heading ++ document ≡ front ++ left) where
    -- a piece can't be written
    pub cut_off : (t : S) (piece behind : List ℕ) → left ≡ piece ++ behind → IsCutOff step u piece t → IsPrinted (IsDocument heading (Some document)) (Some document ≡ None) step s t (Err Unwritten)
    cut_off t piece behind next k =
        (heading ++ document, 0, (refl, refl), subst (λ text. IsCutOff step s text t) (sym (all ∙ ap (λ xs. front ++ xs) next)) (cut_off_behind step s u t front h piece behind k))

    -- memory is refused
    pub stopped : IsPrinted (IsDocument heading (Some document)) (Some document ≡ None) step s u (Err Memory)
    stopped = (front, inr (left, 0, (sym all, refl)), h)

    -- nothing is left
    pub finished : left ≡ [] → IsPrinted (IsDocument heading (Some document)) (Some document ≡ None) step s u (Ok 0)
    finished none =
        (heading ++ document, (refl, refl), subst (λ text. IsWritten step s text u) (sym (all ∙ ap (λ xs. front ++ xs) none ∙ append-nil front)) h)
