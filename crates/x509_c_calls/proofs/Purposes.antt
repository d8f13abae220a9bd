-- The purposes that a number names, one after the other.
use Rattle.std.proofs.Common.{append_assoc, ◌≡◌, ◌∙◌, ◌≢◌, ◌++◌, ◌∷◌, ◌<◌, ◌%◌, ◌/◌, ◌+◌, ◌==◌, [], ap, arith, sym, List, ℕ, cond, drop, get_or, length}
use Rattle.std.proofs.lemmas.List.{drop_more}
use Rattle.x509_c_calls.specs.PathValidation.{named_purposes}

-- the number's lowest bit names the next one
pub named_by_bit : (known found : List (List ℕ)) (left i : ℕ) → left % 2 ≡ 1 → i < length known
    → (found ++ get_or known i [] ∷ []) ++ named_purposes (left / 2) (drop (i + 1) known) ≡ found ++ named_purposes left (drop i known)
named_by_bit known found left i odd inside =
    append_assoc found (get_or known i [] ∷ []) (named_purposes (left / 2) (drop (i + 1) known))
    ∙ ap (λ r. found ++ cond (r == 1) (get_or known i [] ∷ named_purposes (left / 2) (drop (i + 1) known)) (named_purposes (left / 2) (drop (i + 1) known))) (sym odd)
    ∙ ap (λ xs. found ++ named_purposes left xs) (sym (drop_more known i [] inside))

-- it doesn't
pub not_named : (known found : List (List ℕ)) (left i : ℕ) → left % 2 ≢ 1 → i < length known
    → found ++ named_purposes (left / 2) (drop (i + 1) known) ≡ found ++ named_purposes left (drop i known)
not_named known found left i even inside =
    let none : left % 2 ≡ 0 = omega (arith, even) in
    ap (λ r. found ++ cond (r == 1) (get_or known i [] ∷ named_purposes (left / 2) (drop (i + 1) known)) (named_purposes (left / 2) (drop (i + 1) known))) (sym none)
    ∙ ap (λ xs. found ++ named_purposes left xs) (sym (drop_more known i [] inside))
