-- Writing a text piece by piece.
use Rattle.std.proofs.Common.{◌≡◌, ◌≢◌, ◌≤◌, ◌<◌, ◌+◌, ◌-◌, ℕ, suc, zero, List, [], ◌∷◌, ◌++◌, length, get_or, take, drop, Option, Some, refl, add-one, ap, sym, ◌∙◌, arith, append_assoc, append-nil, length-drop, drop-cons}
use Rattle.std.proofs.Math.Seq.{take-suc}
use Rattle.std.proofs.lemmas.Grind.{flat_map-append}
use Rattle.std.proofs.lemmas.List.{take-append-drop, take_all}
use Rattle.std.specs.List.{flat_map}
use Rattle.x509_tool_run.specs.Program.{IsCutOff, IsWritten}
use Rattle.x509_tool_run.specs.Transfer.{Moves}
use Rattle.x509_tool_run.proofs.Transfers.{Moves-counted}

-- what is left of a list after its front, as a slice of it
pub slice-rest : (count : ℕ) (rest : List ℕ) → take (length rest - count) (drop count rest) ≡ drop count rest
slice-rest count rest = take_all _ _ (rw length-drop (omega arith))

-- one write more leaves a front that is longer and a rest that is shorter
pub written_more : {S : Type 0} (step : S → Option (List ℕ) → S → Type 0) (s : S) (u : S) (text rest : List ℕ) (count : ℕ) (t : S) → (front : List ℕ) × IsWritten step s front u × (text ≡ front ++ rest) → step u (Some (take count rest)) t → count ≢ 0 → count ≤ length rest → (longer : List ℕ) × IsWritten step s longer t × (text ≡ longer ++ take (length rest - count) (drop count rest))
written_more step s u text rest count t h taken some fits = (
  h.0 ++ take count rest,
  (_, Moves-counted step s h.1.0 h.0 u count rest t h.1.1 taken some fits),
  h.2 ∙ ap (λ xs. h.0 ++ xs) (sym (ap (λ xs. take count rest ++ xs) (slice-rest count rest) ∙ take-append-drop count rest)) ∙ sym (append_assoc h.0 (take count rest) (take (length rest - count) (drop count rest))),
)

-- ---- texts one behind the other

some_in_front : (xs ys : List ℕ) → xs ≢ [] → xs ++ ys ≢ []
some_in_front [] ys some = absurd (some refl)
some_in_front (x ∷ xs) ys some = λ none. cc

module _ {S : Type 0} (step : S → Option (List ℕ) → S → Type 0) (s u t : S) (front : List ℕ) (h : IsWritten step s front u) where
  moves_behind : (writes : ℕ) (piece : List ℕ) (v : S) → Moves step u writes piece v → IsWritten step s (front ++ piece) v
  moves_behind zero piece v k = rw (k.0, k.1, append-nil front) h
  moves_behind (suc writes) piece v k =
      let before = moves_behind writes k.1 k.0 k.3 in
      (suc before.0, (k.0, front ++ k.1, k.2, before.1, k.4, k.5, ap (λ xs. front ++ xs) k.6 ∙ sym (append_assoc front k.1 k.2)))

  -- a text behind what is written
  pub written_behind : (piece : List ℕ) → IsWritten step u piece t → IsWritten step s (front ++ piece) t
  written_behind piece k = moves_behind k.0 piece t k.1

  -- a text that is cut off, in front of what is left
  pub cut_off_behind : (piece left : List ℕ) → IsCutOff step u piece t → IsCutOff step s (front ++ (piece ++ left)) t
  cut_off_behind piece left k = (
    k.0,
    front ++ k.1,
    k.2 ++ left,
    moves_behind k.3.0 k.1 k.0 k.3.1,
    k.4,
    ap (λ xs. front ++ (xs ++ left)) k.5 ∙ ap (λ xs. front ++ xs) (append_assoc k.1 k.2 left) ∙ sym (append_assoc front k.1 (k.2 ++ left)),
    some_in_front k.2 left k.6,
  )

module _ {X S : Type 0} (view : X → List ℕ) (step : S → Option (List ℕ) → S → Type 0) (s u t : S) (texts : List X) (i : ℕ) (d : X) (lt : i < length texts) (h : IsWritten step s (flat_map view (take i texts)) u) where
  -- one text more
  pub written_further : IsWritten step u (view (get_or texts i d)) t → IsWritten step s (flat_map view (take (i + 1) texts)) t
  written_further k =
      rw (add-one i, take-suc texts i d lt, flat_map-append view (take i texts) (get_or texts i d ∷ []), append-nil (view (get_or texts i d))) (written_behind step s u t (flat_map view (take i texts)) h (view (get_or texts i d)) k)

  texts_from : flat_map view texts ≡ flat_map view (take i texts) ++ (view (get_or texts i d) ++ flat_map view (drop (suc i) texts))
  texts_from =
      ap (flat_map view) (sym (take-append-drop i texts)) ∙ flat_map-append view (take i texts) (drop i texts)
      ∙ ap (λ xs. flat_map view (take i texts) ++ flat_map view xs) (drop-cons texts i d lt)

  -- a text can't be written
  pub cut_off_there : IsCutOff step u (view (get_or texts i d)) t → IsCutOff step s (flat_map view texts) t
  cut_off_there k = rw texts_from (cut_off_behind step s u t (flat_map view (take i texts)) h (view (get_or texts i d)) (flat_map view (drop (suc i) texts)) k)
