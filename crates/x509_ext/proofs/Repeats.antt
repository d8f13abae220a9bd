-- Two extensions have one identifier exactly where their identifiers aren't distinct.
use Rattle.std.proofs.Common.{◌≡◌, ◌↔◌, ℕ, zero, suc, ◌+◌, ◌<◌, ◌≤◌, Bool, true, false, List, [], ◌∷◌, length, map, cond, get_or, bytes_eq, not, refl, sym, ap, ◌∙◌, subst, inl, inr, arith}
use Rattle.std.specs.Option.{is_some}
use Rattle.std.specs.Prelude.{IsTrue, Option, Some, None, MatchOption}
use Rattle.std.specs.List.{IsAllAdjacentAnswer}
use Rattle.std.specs.List.Sorted.{IsPermutation, IsSortedBy, IsStrictlySortedBy}
use Rattle.std.specs.Ordering.{is_lt}
use Rattle.std.specs.declared.cmp.Ordering.TheVariants.{Less}
use Rattle.std.proofs.lemmas.Cmp.{nat_list_cmp_total}
use Rattle.std.proofs.lemmas.Map.Lookups.{exact_bytes}
use Rattle.std.proofs.lemmas.Map.Keys.{Less-from_sorted, sorted_from_all_adjacent}
use Rattle.std.proofs.lemmas.Bool.{cases_lt, true≢false}
use Rattle.std.proofs.lemmas.Slice.Eq.{bytes_eq-Decides}
use Rattle.x509_ext.specs.LookUp.{IsRepeated, with_oid}
use Rattle.x509_der.proofs.RisingLists.{distinct_from_rising, rising_from_distinct}
use Rattle.x509_der.specs.Set.{AreDistinct}
use Rattle.x509_der.specs.SetLaws.{is_less}
use Rattle.x509_der.specs.Order.{bytes_cmp}
use Rattle.x509_ext.specs.declared.extension.Extension.{Extension}

abbrev pub identifiers_of : List Extension → List (List ℕ)
identifiers_of es = map (λ (e : Extension). e.extn_id) es

-- the identifier stands at a place
abbrev IsAmong : List ℕ → List Extension → Type 0
IsAmong oid es = (j : ℕ) × (j < length (identifiers_of es)) × (get_or (identifiers_of es) j [] ≡ oid)

abbrev With : List ℕ → Extension → List Extension → Bool → List Extension
With oid e es b = cond b (e ∷ with_oid oid es) (with_oid oid es)

among_first : (oid : List ℕ) (e : Extension) (es : List Extension) → (1 ≤ length (with_oid oid es) → IsAmong oid es) → (b : Bool) → bytes_eq e.extn_id oid ≡ b → 1 ≤ length (With oid e es b) → IsAmong oid (e ∷ es)
among_first oid e es rest true is some = (0, omega arith, (bytes_eq-Decides e.extn_id oid).0 is)
among_first oid e es rest false is some = let (j, less, same) = rest some in (suc j, omega (arith, less), same)

among : (oid : List ℕ) (es : List Extension) → 1 ≤ length (with_oid oid es) → IsAmong oid es
among oid [] some = absurd (omega (arith, some))
among oid (e ∷ es) some = among_first oid e es (λ more. among oid es more) (bytes_eq e.extn_id oid) refl some

found : (oid : List ℕ) (e : Extension) (es : List Extension) → e.extn_id ≡ oid → length (with_oid oid es) < length (with_oid oid (e ∷ es))
found oid e es is = rw ((bytes_eq-Decides e.extn_id oid).1 is) (omega arith)

more : (oid : List ℕ) (e : Extension) (es : List Extension) → length (with_oid oid es) ≤ length (with_oid oid (e ∷ es))
more oid e es = elim (bytes_eq e.extn_id oid) as (λ b. length (with_oid oid es) ≤ length (With oid e es b)) [ true ↦ omega arith | false ↦ omega arith ]

met : (oid : List ℕ) (es : List Extension) (j : ℕ) (other : List ℕ) → j < length (identifiers_of es) → get_or (identifiers_of es) j other ≡ oid → 1 ≤ length (with_oid oid es)
met oid [] j other less is = omega (arith, less)
met oid (e ∷ es) zero other less is = omega (arith, found oid e es is)
met oid (e ∷ es) (suc j) other less is = omega (arith, met oid es j other (omega (arith, less)) is, more oid e es)

further : (e : Extension) (es : List Extension) → IsRepeated es → IsRepeated (e ∷ es)
further e es (oid, two) = (oid, omega (arith, two, more oid e es))

tail : (e : Extension) (es : List Extension) → AreDistinct (identifiers_of (e ∷ es)) → AreDistinct (identifiers_of es)
tail e es apart i j other before less same = apart (suc i) (suc j) other (omega (arith, before)) (omega (arith, less)) same

apart_first : (e : Extension) (es : List Extension) → AreDistinct (identifiers_of (e ∷ es)) → (IsRepeated es → ⊥) → (oid : List ℕ) (b : Bool) → bytes_eq e.extn_id oid ≡ b → 2 ≤ length (With oid e es b) → ⊥
apart_first e es apart rest oid true is two =
    let (j, less, same) = among oid es (omega (arith, two)) in
    apart 0 (suc j) [] (omega arith) (omega (arith, less)) (rw same ((bytes_eq-Decides e.extn_id oid).0 is))
apart_first e es apart rest oid false is two = rest (oid, two)

pub not_repeated : (es : List Extension) → AreDistinct (identifiers_of es) → IsRepeated es → ⊥
not_repeated [] apart (oid, two) = omega (arith, two)
not_repeated (e ∷ es) apart (oid, two) = apart_first e es apart (λ behind. not_repeated es (tail e es apart) behind) oid (bytes_eq e.extn_id oid) refl two

-- a first that none behind it repeats is apart from them
before : (e : Extension) (es : List Extension) → length (with_oid e.extn_id es) < 1 → AreDistinct (identifiers_of es) → AreDistinct (identifiers_of (e ∷ es))
before e es none apart i zero other less within same = omega (arith, less)
before e es none apart zero (suc j) other less within same = omega (arith, none, met e.extn_id es j other (omega (arith, within)) (sym same))
before e es none apart (suc i) (suc j) other less within same = apart i j other (omega (arith, less)) (omega (arith, within)) same

empty : AreDistinct (identifiers_of [])
empty i j other less within same = omega (arith, within)

pub repeated : (es : List Extension) → (AreDistinct (identifiers_of es) → ⊥) → IsRepeated es
repeated [] same = absurd (same empty)
repeated (e ∷ es) same = elim (cases_lt (length (with_oid e.extn_id es)) 1) [
  | inl none ↦ further e es (repeated es (λ apart. same (before e es none apart)))
  | inr some ↦ (e.extn_id, omega (arith, some, found e.extn_id e es refl))
]

-- ---- each with those behind it

kept : (e : Extension) (es : List Extension) → with_oid e.extn_id es ≡ [] → (oid : List ℕ) (b : Bool) → bytes_eq e.extn_id oid ≡ b → 2 ≤ length (With oid e es b) → IsRepeated es
kept e es none oid true is two =
    let gone : with_oid oid es ≡ [] = subst (λ o. with_oid o es ≡ []) ((bytes_eq-Decides e.extn_id oid).0 is) none in
    absurd (omega (arith, ap length gone, two))
kept e es none oid false is two = (oid, two)

-- a first that none behind it repeats may be passed
pub passed : (e : Extension) (es : List Extension) → with_oid e.extn_id es ≡ [] → IsRepeated (e ∷ es) ↔ IsRepeated es
passed e es none = ((λ (oid, two). kept e es none oid (bytes_eq e.extn_id oid) refl two), (λ behind. further e es behind))

-- a first that one behind it repeats, where these were looked through
pub met_again : {A : Type 0} (e : Extension) (es : List Extension) (answer : Option A) (front : A → Extension) (others : A → List Extension)
    → MatchOption answer (with_oid e.extn_id es ≡ []) (λ f. with_oid e.extn_id es ≡ front f ∷ others f) → is_some answer ≡ true → IsRepeated (e ∷ es)
met_again e es None front others none some = absurd (true≢false (sym some))
met_again e es (Some f) front others is some = (e.extn_id, omega (arith, ap length is, found e.extn_id e es refl))

-- ---- sorted identifiers

-- each is below the next exactly where they are distinct
pub sorted : (es : List Extension) (ids ordered : List (List ℕ)) → ids ≡ identifiers_of es → IsPermutation ids ordered → IsSortedBy (λ a b. is_lt (bytes_cmp a b)) ordered → (rising : Bool) → IsAllAdjacentAnswer (λ a b r. r ≡ is_lt (bytes_cmp a b)) ordered rising → IsTrue (not rising) ↔ IsRepeated es
sorted es ids ordered is moved rises true answer =
    let strictly : IsStrictlySortedBy bytes_cmp ordered = sorted_from_all_adjacent nat_list_cmp_total ordered [] (λ k less. is_less _ (sym (answer k [] less))) in
    ((λ no. absurd (true≢false (sym no))), (λ two. absurd (not_repeated es (subst AreDistinct is (distinct_from_rising nat_list_cmp_total ids ordered moved strictly)) two)))
sorted es ids ordered is moved rises false (k, less, answer) = (
  (λ yes. repeated es (λ apart.
      let strictly : IsStrictlySortedBy bytes_cmp ordered = rising_from_distinct nat_list_cmp_total exact_bytes ids ordered moved rises (subst AreDistinct (sym is) apart) in
      let below : bytes_cmp (get_or ordered k []) (get_or ordered (k + 1) []) ≡ Less = Less-from_sorted bytes_cmp ordered k (k + 1) [] strictly (omega arith) less in
      true≢false (sym (ap is_lt below) ∙ sym (answer [])))),
  (λ two. refl),
)
