-- The last '@' of a text.
use Rattle.std.proofs.Common.{◌≡◌, ℕ, suc, ◌+◌, ◌-◌, ◌<◌, List, [], ◌∷◌, ◌++◌, None, Some, length, take, drop, get_or, sym, ◌∙◌, ap, arith, add-one, drop-cons, length-drop}
use Rattle.std.proofs.lemmas.List.{append-nil, take-append-drop, take_all}
use Rattle.x509_constraints.specs.Email.{at, in_front, mailbox_of}

-- what stands in front of a mailbox belongs to its local part
mailbox_of-append : (front rest local host : List ℕ) → mailbox_of rest ≡ Some (local, host) → mailbox_of (front ++ rest) ≡ Some (front ++ local, host)
mailbox_of-append [] rest local host is = is
mailbox_of-append (c ∷ front) rest local host is = ap (in_front c (front ++ rest)) (mailbox_of-append front rest local host is)

-- the last '@' is the one behind which there is none
pub mailbox_at : (xs : List ℕ) (n left : ℕ) → n < length xs → left ≡ n + 1 → get_or xs n 0 ≡ at → mailbox_of (drop left xs) ≡ None →
    mailbox_of xs ≡ Some (take n xs, take (length xs - (n + 1)) (drop (n + 1) xs))
mailbox_at xs n left inside after is_at none =
    let whole : take (length xs - (n + 1)) (drop (n + 1) xs) ≡ drop left xs =
    take_all (length xs - (n + 1)) (drop (n + 1) xs) (omega (arith, length-drop (n + 1) xs)) ∙ ap (λ m. drop m xs) (sym after) in
    let front : drop n xs ≡ at ∷ drop left xs = drop-cons xs n 0 inside ∙ (ap (λ c. c ∷ drop (suc n) xs) is_at ∙ ap (λ m. at ∷ drop m xs) (sym (after
    ∙ add-one n))) in
    let found : mailbox_of (drop n xs) ≡ Some ([], drop left xs) = ap mailbox_of front ∙ ap (in_front at (drop left xs)) none in
    sym (ap mailbox_of (take-append-drop n xs)) ∙ (mailbox_of-append (take n xs) (drop n xs) [] (drop left xs) found
    ∙ (ap (λ l. Some (l, drop left xs)) (append-nil (take n xs)) ∙ ap (λ h. Some (take n xs, h)) (sym whole)))
