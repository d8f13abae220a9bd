-- Cutting bytes from their front.
use Rattle.std.proofs.Common.{◌≡◌, ◌∙◌, ℕ, ◌+◌, ◌<◌, ◌≤◌, List, ◌++◌, length, map, take, get_or, sum, sym, ap, length-append, arith}
use Rattle.std.proofs.lemmas.List.{take_all}
use Rattle.std.proofs.lemmas.List.Concat.{length-flat_map}
use Rattle.std.proofs.lemmas.List.Sums.{sum-map, sum_by_more_le}
use Rattle.std.specs.List.{flat_map}
use Rattle.x509_c_calls.specs.Pieces.{AreCut}

abbrev joined : List (List ℕ) → List ℕ
joined pieces = flat_map (λ piece. piece) pieces

-- pieces have as many bytes as their lengths add up to
length-joined : (pieces : List (List ℕ)) → length (joined pieces) ≡ sum (map length pieces)
length-joined pieces = length-flat_map (λ piece. piece) pieces ∙ sym (sum-map length pieces)

-- the pieces so far, and what is left of the bytes
pub record Cut (bytes lens : List ℕ) (i : ℕ) (pieces : List (List ℕ)) (rest : List ℕ) : Type 0 where
  pub lengths : map length pieces ≡ take i lens
  pub whole : joined pieces ++ rest ≡ bytes

module _ (bytes lens : List ℕ) (i : ℕ) (pieces : List (List ℕ)) (rest : List ℕ) (so_far : Cut bytes lens i pieces rest) where
  cut_off : sum (take i lens) + length rest ≡ length bytes
  cut_off = ap (λ n. n + length rest) (ap sum (sym so_far.lengths) ∙ sym (length-joined pieces)) ∙ sym (length-append (joined pieces) rest) ∙ ap length so_far.whole

  all_of : (others : List (List ℕ)) → AreCut bytes lens others → sum lens ≡ length bytes
  all_of others (lengths, whole) = ap sum (sym lengths) ∙ sym (length-joined others) ∙ ap length whole

  -- no cut where the next length is more than is left
  pub too_few : (d : ℕ) → i < length lens → length rest < get_or lens i d → (others : List (List ℕ)) → AreCut bytes lens others → ⊥
  too_few d within less others cut = omega (arith, cut_off, all_of others cut, sum_by_more_le (λ n. n) lens i d within)

  -- no cut where some bytes are left
  pub too_many : length lens ≤ i → 0 < length rest → (others : List (List ℕ)) → AreCut bytes lens others → ⊥
  too_many past some others cut = omega (arith, cut_off, all_of others cut, ap sum (take_all i lens past))
