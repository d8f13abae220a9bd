-- What preparing a text goes through.
use Rattle.std.proofs.Common.{◌≡◌, ℕ, ◌-◌, ◌≤◌, Bool, true, false, ◌&&◌, List, [], ◌∷◌, ◌++◌, length, take, drop, get_or, encode_utf8_all, IsUtf8, chars, if◌then◌else◌, Some, None, option_map, refl, sym, ap, ◌∙◌, append_assoc, arith}
use Rattle.std.proofs.lemmas.Str.{chars_from_encodes, encodes-append}
use Rattle.std.proofs.lemmas.List.{take_all}
use Rattle.std.specs.List.{list_any}
use Rattle.x509_match.specs.Prepared.{is_prohibited, folded, mapped, is_space, squeezed_behind, squeezed, prepared}

-- a text that is the UTF-8 of characters has these
pub chars_are : (bytes cs : List ℕ) → IsUtf8 bytes → bytes ≡ encode_utf8_all cs → chars bytes ≡ cs
chars_are bytes cs utf8 e = sym (chars_from_encodes cs bytes utf8 (sym e))

-- a space more
pub one_space_more : (begun gap : Bool) (text : List ℕ) (c d : ℕ) → 1 ≤ length text → c ≡ get_or text 0 d → is_space c (take (length text - 1) (drop 1 text)) ≡ true
    → squeezed_behind begun gap text ≡ squeezed_behind begun true (take (length text - 1) (drop 1 text))
one_space_more begun gap [] c d len at h = absurd (omega arith)
one_space_more begun gap (first ∷ text) c d len at h =
    let rest : take (length (first ∷ text) - 1) text ≡ text = take_all (length (first ∷ text) - 1) text (omega arith) in
    rw rest (let k = rw (rest, at) at h in rw k refl)

-- another character more
pub one_other_more : (begun gap : Bool) (old new text all : List ℕ) (c d : ℕ) → 1 ≤ length text → c ≡ get_or text 0 d → is_space c (take (length text - 1) (drop 1 text)) ≡ false
    → new ≡ old ++ encode_utf8_all ((if begun && gap then 0x20 ∷ [] else []) ++ c ∷ []) → old ++ encode_utf8_all (squeezed_behind begun gap text) ≡ all
    → new ++ encode_utf8_all (squeezed_behind true false (take (length text - 1) (drop 1 text))) ≡ all
one_other_more begun gap old new [] all c d len at h made before = absurd (omega arith)
one_other_more begun gap old new (first ∷ text) all c d len at h made before =
    let rest : take (length (first ∷ text) - 1) text ≡ text = take_all (length (first ∷ text) - 1) text (omega arith) in
    let k = rw (rest, at) at h in
    let shown = rw k at before in
    let front : List ℕ = if begun && gap then 0x20 ∷ [] else [] in
    let tail : List ℕ = squeezed_behind true false text in
    let same : c ≡ first = at in
    let joined : (front ++ c ∷ []) ++ tail ≡ front ++ first ∷ tail = append_assoc front (c ∷ []) tail ∙ ap (λ x. front ++ x ∷ tail) same in
    rw rest (ap (λ x. x ++ encode_utf8_all tail) made ∙ append_assoc old (encode_utf8_all (front ++ c ∷ [])) (encode_utf8_all tail)
    ∙ ap (λ x. old ++ x) (sym (encodes-append (front ++ c ∷ []) tail) ∙ ap encode_utf8_all joined) ∙ shown)

-- a text with a prohibited character
pub refused : (text : List ℕ) → list_any is_prohibited (folded (mapped text)) ≡ true → None ≡ option_map encode_utf8_all (prepared text)
unfolding prepared
refused text h = rw h refl

-- a text without one
pub accepted : (text found : List ℕ) → list_any is_prohibited (folded (mapped text)) ≡ false → found ≡ encode_utf8_all (squeezed (folded (mapped text))) → Some found ≡ option_map encode_utf8_all (prepared text)
unfolding prepared
accepted text found h e = rw h (ap Some e)
