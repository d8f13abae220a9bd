-- Relative distinguished names as they are written, from the last on.
use Rattle.std.proofs.Common.{◌≡◌, ◌<◌, ◌-◌, ℕ, List, length, reverse, get_or, sym, ap, ◌∙◌}
use Rattle.std.proofs.lemmas.List.{get_or-reverse}

-- what stands at a place from the end is at that place of the list turned round
pub at_reverse : {X : Type 0} (xs : List X) (i k : ℕ) (x : X) → i < length xs → k ≡ length xs - 1 - i → x ≡ get_or xs k x → x ≡ get_or (reverse xs) i x
at_reverse xs i k x lt there at = at ∙ ap (λ (j : ℕ). get_or xs j x) there ∙ sym (get_or-reverse xs i x lt)
