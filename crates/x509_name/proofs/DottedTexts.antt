-- The octets of a dotted identifier are digits and full stops.
use Rattle.std.proofs.Common.{◌≡◌, ◌≤◌, ◌<◌, ℕ, List, [], ◌∷◌, ◌++◌, length, refl, sym, subst, arith}
use Rattle.std.specs.Prelude.{Contains}
use Rattle.std.specs.Fmt.{decimal}
use Rattle.std.specs.List.{AllByRecursion}
use Rattle.std.specs.Str.{IsUtf8}
use Rattle.std.proofs.lemmas.Fmt.{decimal_is_IsNumeral}
use Rattle.std.proofs.lemmas.List.{get_or_default, length-append}
use Rattle.std.proofs.lemmas.List.Elements.{All-from_recursion, recursion_from_All}
use Rattle.std.proofs.lemmas.Str.{IsUtf8-from_ascii}
use Rattle.std.proofs.lemmas.Str.Ascii.{IsAscii-from_all}
use Rattle.std.proofs.lemmas.Str.Parse.{digit_at}
use Rattle.x509_der.specs.Arcs.{AreArcs, AreSmall, dotted, subidentifier_limit}
use Rattle.x509_der.specs.ArcLaws.{some_arcs, small_arcs}

-- ---- what holds of each

module _ {X : Type 0} (P : X → Type 0) where
  pub AllByRecursion-append : (xs ys : List X) → AllByRecursion P xs → AllByRecursion P ys → AllByRecursion P (xs ++ ys)
  AllByRecursion-append [] ys p q = q
  AllByRecursion-append (x ∷ xs) ys p q = (p.0, AllByRecursion-append xs ys p.1 q)

  pub AllByRecursion-weaker : (Q : X → Type 0) → ((x : X) → P x → Q x) → (xs : List X) → AllByRecursion P xs → AllByRecursion Q xs
  AllByRecursion-weaker Q f [] p = tt
  AllByRecursion-weaker Q f (x ∷ xs) p = (f x p.0, AllByRecursion-weaker Q f xs p.1)

  pub contains_none : (xs : List X) (x : X) → AllByRecursion P xs → (P x → ⊥) → Contains xs x → ⊥
  contains_none xs x p not found = not (subst P found.2 (All-from_recursion P xs p found.0 x found.1))

-- ---- digits and full stops

abbrev pub IsDottedOctet : ℕ → Type 0
IsDottedOctet octet = (46 ≤ octet) × (octet ≤ 57)

decimal_octets : (n : ℕ) → n ≤ subidentifier_limit → AllByRecursion IsDottedOctet (decimal n)
decimal_octets n small =
    let digits = (decimal_is_IsNumeral n (omega arith)).0.1 in
    recursion_from_All IsDottedOctet (decimal n) (λ (k d : ℕ) (below : k < length (decimal n)).
    let digit = digit_at (decimal n) k digits below in
    let same = get_or_default (decimal n) k d 0 below in
    (omega arith, omega arith))

pub dotted_octets : (arcs : List ℕ) → AreSmall arcs → AllByRecursion IsDottedOctet (dotted arcs)
unfolding dotted
dotted_octets [] small = tt
dotted_octets (a ∷ []) small = decimal_octets a small.0
dotted_octets (a ∷ b ∷ arcs) small =
    AllByRecursion-append IsDottedOctet (decimal a) (46 ∷ dotted (b ∷ arcs)) (decimal_octets a small.0) ((omega arith, omega arith), dotted_octets (b ∷ arcs) small.1)

some_decimal : (n : ℕ) → n ≤ subidentifier_limit → 0 < length (decimal n)
some_decimal n small = (decimal_is_IsNumeral n (omega arith)).0.0

pub some_dotted : (arcs : List ℕ) → 0 < length arcs → AreSmall arcs → 0 < length (dotted arcs)
unfolding dotted
some_dotted [] some small = absurd (omega arith)
some_dotted (a ∷ []) some small = some_decimal a small.0
some_dotted (a ∷ b ∷ arcs) some small = let first = some_decimal a small.0 in omega (arith, length-append (decimal a) (46 ∷ dotted (b ∷ arcs)))

pub dotted_is_utf8 : (arcs : List ℕ) → AreArcs arcs → IsUtf8 (dotted arcs)
dotted_is_utf8 arcs h =
    IsUtf8-from_ascii (dotted arcs) (IsAscii-from_all (dotted arcs)
    (All-from_recursion (λ octet. octet < 128) (dotted arcs)
    (AllByRecursion-weaker IsDottedOctet (λ octet. octet < 128) (λ (octet : ℕ) (p : IsDottedOctet octet). omega arith) (dotted arcs) (dotted_octets arcs (small_arcs arcs h)))))

pub first_dotted : (arcs : List ℕ) (text : List ℕ) → AreArcs arcs → text ≡ dotted arcs → (octet : ℕ) × (rest : List ℕ) × (text ≡ octet ∷ rest) × IsDottedOctet octet
first_dotted arcs text h e = first text (subst (AllByRecursion IsDottedOctet) (sym e) (dotted_octets arcs (small_arcs arcs h))) (subst (λ (t : List ℕ). 0 < length t) (sym e) (some_dotted arcs (some_arcs arcs h) (small_arcs arcs h)))
  where
    first : (t : List ℕ) → AllByRecursion IsDottedOctet t → 0 < length t → (octet : ℕ) × (rest : List ℕ) × (t ≡ octet ∷ rest) × IsDottedOctet octet
    first [] all some = absurd (omega arith)
    first (octet ∷ rest) all some = (octet, rest, refl, all.0)
