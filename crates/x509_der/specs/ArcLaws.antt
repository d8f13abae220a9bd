-- Arcs and content octets.
use Rattle.std.proofs.Common.{◌≡◌, ℕ, suc, ◌+◌, ◌-◌, ◌*◌, ◌^◌, ◌<◌, ◌≤◌, true, List, [], ◌∷◌, ◌++◌, drop, length, get_or, refl, sym, ap, ◌∙◌, arith, length-append, ⊎_elim}
use Rattle.std.specs.Prelude.{nat_le}
use Rattle.std.specs.List.{flat_map}
use Rattle.std.proofs.lemmas.Bool.{and_from, le-leb, cases_lt}
use Rattle.x509_der.specs.Arcs.{AreSmall, subidentifier, subidentifiers, content_of, BeginAsArcs, AreArcs}
use Rattle.x509_der.specs.ObjectIdentifier.{are_subidentifiers, subidentifiers_in, is_object_identifier, first_arc, arcs_from, arcs_of}
use Rattle.x509_der.specs.Stored.{test_parts}
use Rattle.x509_der.specs.Subidentifiers.{made_of_subidentifiers, small_subidentifiers, in_subidentifiers, subidentifiers_pass}

-- the first two arcs, from the number that stands for them
pub first_arc_of : (a b : ℕ) → a ≤ 2 → (a < 2 → b ≤ 39) → first_arc (40 * a + b) ≡ a
first_arc_of a b h k = ⊎_elim
    (λ (low : a < 2). let small : b ≤ 39 = k low in omega arith)
    (λ (high : 2 ≤ a). omega arith)
    (cases_lt a 2)

pub arcs_from-subidentifiers : (arcs : List ℕ) → BeginAsArcs arcs → arcs_from (subidentifiers arcs) ≡ arcs
arcs_from-subidentifiers [] h = absurd h
arcs_from-subidentifiers (a ∷ []) h = absurd h
arcs_from-subidentifiers (a ∷ b ∷ arcs) h =
    let first = first_arc_of a b h.0 h.1 in
    let second : 40 * a + b - 40 * first_arc (40 * a + b) ≡ b = rw first (omega arith) in
    λ i. first i ∷ second i ∷ arcs

first_arc_small : (n : ℕ) → first_arc n ≤ 2
first_arc_small n = omega arith

second_arc_small : (n : ℕ) → first_arc n < 2 → n - 40 * first_arc n ≤ 39
second_arc_small n h = omega arith

first_again : (n : ℕ) → 40 * first_arc n + (n - 40 * first_arc n) ≡ n
first_again n = omega arith

pub BeginAsArcs-arcs_from : (ns : List ℕ) → 0 < length ns → BeginAsArcs (arcs_from ns)
BeginAsArcs-arcs_from [] h = absurd (omega arith)
BeginAsArcs-arcs_from (n ∷ ns) h = (first_arc_small n, second_arc_small n)

pub subidentifiers-arcs_from : (ns : List ℕ) → 0 < length ns → subidentifiers (arcs_from ns) ≡ ns
subidentifiers-arcs_from [] h = absurd (omega arith)
subidentifiers-arcs_from (n ∷ ns) h = ap (λ m. m ∷ ns) (first_again n)

-- the arcs of the content that arcs have
pub arcs_of-content_of : (arcs : List ℕ) → BeginAsArcs arcs → arcs_of (content_of arcs) ≡ arcs
unfolding arcs_of
arcs_of-content_of arcs h = ap arcs_from (in_subidentifiers (subidentifiers arcs)) ∙ arcs_from-subidentifiers arcs h

-- a content that passes the test has a subidentifier
subidentifiers_some : (c : List ℕ) (ns : List ℕ) → is_object_identifier c ≡ true → c ≡ flat_map subidentifier ns → 0 < length ns
subidentifiers_some c [] h e = absurd (let k : is_object_identifier [] ≡ true = rw e at h in cc)
subidentifiers_some c (n ∷ ns) h e = omega arith

pub subidentifiers_in-some : (c : List ℕ) → is_object_identifier c ≡ true → 0 < length (subidentifiers_in 0 c)
subidentifiers_in-some c h = subidentifiers_some c (subidentifiers_in 0 c) h (made_of_subidentifiers 0 true c refl (test_parts c h).1)

-- what passes the test is the content of its arcs
pub content_of-arcs_of : (c : List ℕ) → is_object_identifier c ≡ true → AreArcs (arcs_of c) × (content_of (arcs_of c) ≡ c)
unfolding arcs_of
content_of-arcs_of c h =
    let p = test_parts c h in
    let ns : List ℕ = subidentifiers_in 0 c in
    let made : c ≡ flat_map subidentifier ns = made_of_subidentifiers 0 true c refl p.1 in
    let some : 0 < length ns = subidentifiers_some c ns h made in
    let again : subidentifiers (arcs_from ns) ≡ ns = subidentifiers-arcs_from ns some in
    let whole : content_of (arcs_from ns) ≡ c = ap (flat_map subidentifier) again ∙ sym made in (
      record {
        begin = BeginAsArcs-arcs_from ns some;
        small = rw again (small_subidentifiers 0 true c p.1);
        short = omega (arith, p.0, ap length whole);
      },
      whole,
    )

subidentifier_some : (n : ℕ) → 0 < length (subidentifier n)
unfolding subidentifier
subidentifier_some n = omega (arith, length-append {A = ℕ})

content_some : (arcs : List ℕ) → BeginAsArcs arcs → 0 < length (content_of arcs)
content_some [] h = absurd h
content_some (a ∷ []) h = absurd h
content_some (a ∷ b ∷ arcs) h = omega (arith, subidentifier_some (40 * a + b), length-append (subidentifier (40 * a + b)) (flat_map subidentifier arcs))

passes : (c : List ℕ) → 0 < length c → length c ≤ 39 → are_subidentifiers 0 true c ≡ true → is_object_identifier c ≡ true
passes [] some short h = absurd (omega arith)
passes (x ∷ xs) some short h = and_from (nat_le (length (x ∷ xs)) 39) _ (le-leb (length (x ∷ xs)) 39 short) h

-- the content of arcs passes the test
pub content_of-passes : (arcs : List ℕ) → AreArcs arcs → is_object_identifier (content_of arcs) ≡ true
content_of-passes arcs h = passes (content_of arcs) (content_some arcs h.begin) h.short (subidentifiers_pass (subidentifiers arcs) h.small)

below_all : (ns : List ℕ) → ((k : ℕ) → k < length ns → get_or ns k 0 < 2 ^ 32) → AreSmall ns
below_all [] h = tt
below_all (n ∷ ns) h = (omega (arith, h 0 (omega arith)), below_all ns (λ k below. h (suc k) (omega arith)))

-- arcs that were tested and put together within the room
pub tested_arcs : (arcs content : List ℕ) → 2 ≤ length arcs → ((k : ℕ) → k < length arcs → get_or arcs k 0 < 2 ^ 32) → get_or arcs 0 0 ≤ 2 → (get_or arcs 0 0 < 2 → get_or arcs 1 0 ≤ 39)
    → 40 * get_or arcs 0 0 + get_or arcs 1 0 < 2 ^ 32 → content ≡ subidentifier (40 * get_or arcs 0 0 + get_or arcs 1 0) ++ flat_map subidentifier (drop 2 arcs) → length content ≤ 39
    → AreArcs arcs × (content ≡ content_of arcs)
tested_arcs [] content two each first second small made short = absurd (omega arith)
tested_arcs (a ∷ []) content two each first second small made short = absurd (omega arith)
tested_arcs (a ∷ b ∷ arcs) content two each first second small made short = (
  record {
    begin = (first, second);
    small = (omega arith, below_all arcs (λ k below. each (suc (suc k)) (omega arith)));
    short = omega (arith, ap length made);
  },
  made,
)

-- the arcs that subidentifiers stand for, from the first and those behind it
pub arcs_of_first : (c ns : List ℕ) → ns ≡ subidentifiers_in 0 c → 0 < length ns → arcs_of c ≡ first_arc (get_or ns 0 0) ∷ (get_or ns 0 0 - 40 * first_arc (get_or ns 0 0)) ∷ drop 1 ns
unfolding arcs_of
arcs_of_first c [] e some = absurd (omega arith)
arcs_of_first c (n ∷ ns) e some = ap arcs_from (sym e)

-- arcs within the limits are small, and few enough for 39 octets
length-content : (ns : List ℕ) → length ns ≤ length (flat_map subidentifier ns)
length-content [] = omega arith
length-content (n ∷ ns) = omega (arith, subidentifier_some n, length-append (subidentifier n) (flat_map subidentifier ns), length-content ns)

pub few_arcs : (arcs : List ℕ) → AreArcs arcs → length arcs ≤ 40
few_arcs [] h = omega arith
few_arcs (a ∷ []) h = omega arith
few_arcs (a ∷ b ∷ arcs) h = omega (arith, h.short, length-content ((40 * a + b) ∷ arcs))

pub some_arcs : (arcs : List ℕ) → AreArcs arcs → 0 < length arcs
some_arcs [] h = absurd h.begin
some_arcs (a ∷ arcs) h = omega arith

pub small_arcs : (arcs : List ℕ) → AreArcs arcs → AreSmall arcs
small_arcs [] h = tt
small_arcs (a ∷ []) h = absurd h.begin
small_arcs (a ∷ b ∷ arcs) h = (omega (arith, h.begin.0), (omega (arith, h.small.0), h.small.1))
