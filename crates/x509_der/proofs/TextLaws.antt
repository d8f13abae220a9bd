-- Dotted texts and the arcs that they say.
use Rattle.std.proofs.Common.{◌≡◌, ℕ, ◌^◌, ◌<◌, ◌≤◌, Bool, false, eqb, List, [], ◌∷◌, ◌++◌, map, length, get_or, refl, sym, ap, ◌∙◌, arith}
use Rattle.std.specs.Fmt.{decimal}
use Rattle.std.specs.List.{All, slice_split, join_with_byte}
use Rattle.std.proofs.lemmas.Bool.{ne_eqb}
use Rattle.std.proofs.lemmas.Fmt.{decimal_is_IsNumeral, decimal_injective}
use Rattle.std.proofs.lemmas.List.{append_assoc, get_or_default, get_or-map, length-map, map_push}
use Rattle.std.proofs.lemmas.List.Elements.{All-from_recursion}
use Rattle.std.proofs.lemmas.List.Splits.{slice_split_none, slice_split_at, length-slice_split, join_with_byte-slice_split}
use Rattle.std.proofs.lemmas.Str.Parse.{digit_at}
use Rattle.x509_der.specs.Arcs.{AreSmall, dotted, subidentifier_limit}

abbrev pub is_stop : ℕ → Bool
is_stop octet = eqb octet 46

-- no full stop is a digit
decimal_lacks_stop : (n : ℕ) → n ≤ subidentifier_limit → All (λ octet. is_stop octet ≡ false) (decimal n)
decimal_lacks_stop n small k d below =
    let digits = (decimal_is_IsNumeral n (omega arith)).0.1 in
    let digit = digit_at (decimal n) k digits below in
    ne_eqb (get_or (decimal n) k d) 46 (λ e. omega (arith, get_or_default (decimal n) k d 0 below))

-- cut at its full stops, a dotted text is the digits of its arcs
pub split-dotted : (a : ℕ) (arcs : List ℕ) → AreSmall (a ∷ arcs) → slice_split is_stop (dotted (a ∷ arcs)) ≡ map decimal (a ∷ arcs)
unfolding dotted
split-dotted a [] small = slice_split_none is_stop (decimal a) (decimal_lacks_stop a small.0)
split-dotted a (b ∷ arcs) small =
    slice_split_at is_stop (decimal a) 46 (dotted (b ∷ arcs)) (decimal_lacks_stop a small.0) refl
    ∙ ap (λ xs. decimal a ∷ xs) (split-dotted b arcs small.1)

decimals_injective : (xs ys : List ℕ) → AreSmall xs → AreSmall ys → map decimal xs ≡ map decimal ys → xs ≡ ys
decimals_injective [] [] p q e = refl
decimals_injective [] (y ∷ ys) p q e = absurd (cc)
decimals_injective (x ∷ xs) [] p q e = absurd (cc)
decimals_injective (x ∷ xs) (y ∷ ys) p q e =
    let first : decimal x ≡ decimal y = cc in
    let rest : map decimal xs ≡ map decimal ys = cc in
    let head = decimal_injective x y (omega (arith, p.0)) (omega (arith, q.0)) first in
    let tail = decimals_injective xs ys p.1 q.1 rest in
    λ i. head i ∷ tail i

-- a dotted text says one list of arcs
pub dotted_injective : (xs ys : List ℕ) → 0 < length xs → 0 < length ys → AreSmall xs → AreSmall ys → dotted xs ≡ dotted ys → xs ≡ ys
dotted_injective [] ys h k p q e = absurd (omega arith)
dotted_injective (x ∷ xs) [] h k p q e = absurd (omega arith)
dotted_injective (x ∷ xs) (y ∷ ys) h k p q e =
    decimals_injective (x ∷ xs) (y ∷ ys) p q (sym (split-dotted x xs p) ∙ ap (slice_split is_stop) e ∙ split-dotted y ys q)

pub split_is : (text arcs : List ℕ) → 0 < length arcs → AreSmall arcs → text ≡ dotted arcs → slice_split is_stop text ≡ map decimal arcs
split_is text [] some small is = absurd (omega arith)
split_is text (a ∷ arcs) some small is = ap (slice_split is_stop) is ∙ split-dotted a arcs small

-- a part of a dotted text is the digits of an arc
pub part_is_arc : (text arcs part : List ℕ) (k : ℕ) → 0 < length arcs → AreSmall arcs → text ≡ dotted arcs → k < length (slice_split is_stop text) → part ≡ get_or (slice_split is_stop text) k part
    → (n : ℕ) × (n < 2 ^ 32) × (part ≡ decimal n)
part_is_arc text arcs part k some small is below at =
    let cut = split_is text arcs some small is in
    let in_arcs : k < length arcs = omega (arith, ap length cut, length-map arcs decimal) in
    let each = All-from_recursion (λ n. n ≤ subidentifier_limit) arcs small k 0 in_arcs in
    (get_or arcs k 0, omega arith, at ∙ ap (λ xs. get_or xs k part) cut ∙ get_or-map decimal arcs k 0 part in_arcs)

-- a text of more parts is no dotted text of these arcs
pub count_parts : (text arcs : List ℕ) → 0 < length arcs → AreSmall arcs → text ≡ dotted arcs → length (slice_split is_stop text) ≡ length arcs
count_parts text arcs some small is = ap length (split_is text arcs some small is) ∙ length-map arcs decimal

-- parts that are the digits of arcs make a dotted text
pub dotted_from_parts : (text arcs : List ℕ) → map decimal arcs ≡ slice_split is_stop text → text ≡ dotted arcs
unfolding dotted
dotted_from_parts text arcs e = sym (join_with_byte-slice_split 46 text) ∙ ap (join_with_byte 46) (sym e)

pub parts_some : (text arcs : List ℕ) → map decimal arcs ≡ slice_split is_stop text → 0 < length arcs
parts_some text arcs e = omega (arith, ap length e, length-map arcs decimal, length-slice_split is_stop text)

pub one_arcs : (text xs ys : List ℕ) → map decimal xs ≡ slice_split is_stop text → AreSmall xs → 0 < length ys → AreSmall ys → text ≡ dotted ys → xs ≡ ys
one_arcs text xs ys e p some q is = decimals_injective xs ys p q (e ∙ split_is text ys some q is)

join_push : (octet : ℕ) (part : List ℕ) (parts : List (List ℕ)) (x : List ℕ) → join_with_byte octet (part ∷ (parts ++ x ∷ [])) ≡ join_with_byte octet (part ∷ parts) ++ (octet ∷ x)
join_push octet part [] x = refl
join_push octet part (p ∷ parts) x = ap (λ xs. part ++ (octet ∷ xs)) (join_push octet p parts x) ∙ sym (append_assoc part (octet ∷ join_with_byte octet (p ∷ parts)) (octet ∷ x))

pub dotted_two : (a b : ℕ) → dotted (a ∷ b ∷ []) ≡ decimal a ++ (46 ∷ decimal b)
unfolding dotted
dotted_two a b = refl

-- one more arc is a full stop and its digits
pub dotted_push : (a : ℕ) (arcs : List ℕ) (b : ℕ) → dotted (a ∷ (arcs ++ b ∷ [])) ≡ dotted (a ∷ arcs) ++ (46 ∷ decimal b)
unfolding dotted
dotted_push a arcs b = ap (λ parts. join_with_byte 46 (decimal a ∷ parts)) (map_push decimal arcs b) ∙ join_push 46 (decimal a) (map decimal arcs) (decimal b)
