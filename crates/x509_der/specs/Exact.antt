-- When `==` is exact: it finds a value equal to itself alone. What a derive compares is exact where the `==` of each field is.
use Rattle.std.specs.Prelude.{◌≡◌, Bool, true, false, ◌&&◌, List, [], ◌∷◌, Some, None, ⊤, nat_eq, bytes_eq}
use Rattle.std.proofs.Common.{refl, sym, ap, ◌∙◌, inl, inr}
use Rattle.std.proofs.lemmas.Bool.{true≢false}
use Rattle.std.proofs.lemmas.Bool.Decides.{Decides-and, Decides-eqb}
use Rattle.std.proofs.lemmas.Slice.Eq.{bytes_eq-Decides}
use Rattle.std.specs.Bool.{Decides, beq}
use Rattle.std.specs.Option.{option_eq}
use Rattle.std.specs.Cmp.Derive.{of_values}
use Rattle.std.specs.Cmp.Lexicographic.{pointwise, pointwise_decides}
use denote.Enum.Bare.{Bare, sameb, same_true, true_same}
use denote.Enum.Compared.{Each, by}
use denote.Enum.Declared.{Record, declared, values_one}
use denote.Struct.Field.{Field}

-- E answers yes of a value and itself alone
abbrev pub IsExact : {X : Type 0} → (X → X → Bool) → Type 0
IsExact {X} E = (a b : X) → Decides (E a b) (a ≡ b)

-- ---- numbers, tests, octets, lists, options

pub exact_number : IsExact nat_eq
exact_number = Decides-eqb

pub exact_bool : IsExact beq
exact_bool true true = (λ e. refl, λ e. refl)
exact_bool true false = (λ e. sym e, λ e. sym e)
exact_bool false true = (λ e. e, λ e. e)
exact_bool false false = (λ e. refl, λ e. refl)

pub exact_octets : IsExact bytes_eq
exact_octets = bytes_eq-Decides

-- a test that fails where two values differ
apart : {X : Type 0} {x y : X} → (x ≡ y → ⊥) → Decides false (x ≡ y)
apart h = (λ e. absurd (true≢false (sym e)), λ e. absurd (h e))

module _ {X : Type 0} {E : X → X → Bool} (exact : IsExact E) where
  pub exact_list : IsExact (pointwise E)
  exact_list = pointwise_decides exact

  pub exact_option : IsExact (option_eq E)
  exact_option None None = (λ e. refl, λ e. refl)
  exact_option None (Some y) = apart (λ e. cc)
  exact_option (Some x) None = apart (λ e. cc)
  exact_option (Some x) (Some y) = (λ e. ap Some ((exact x y).0 e), λ e. (exact x y).1 (cc))

-- ---- the fields of a struct, as pairs

-- values that have no content
pub exact_unit : IsExact (λ (a b : Unit {0}). true)
exact_unit a b = (λ e. refl, λ e. refl)

pub exact_both : {X Y : Type 0} {E : X → X → Bool} {F : Y → Y → Bool} → IsExact E → IsExact F → IsExact (λ (a b : X × Y). E a.0 b.0 && F a.1 b.1)
exact_both {E = E} {F = F} x y a b =
    let both = Decides-and (E a.0 b.0) (F a.1 b.1) (x a.0 b.0) (y a.1 b.1) in
    (λ e. let same = both.0 e in λ i. (same.0 i, same.1 i), λ e. both.1 (λ i. (e i).0, λ i. (e i).1))

pub exact_last : {X : Type 0} {E : X → X → Bool} → IsExact E → IsExact (λ (a b : X × Unit {0}). E a.0 b.0)
exact_last exact a b = (λ e. let same = (exact a.0 b.0).0 e in λ i. (same i, tt), λ e. (exact a.0 b.0).1 (λ i. (e i).0))

-- by what tells the values apart
pub exact_on : {X Y : Type 0} {E : Y → Y → Bool} (f : X → Y) → ((a b : X) → f a ≡ f b → a ≡ b) → IsExact E → IsExact (λ a b. E (f a) (f b))
exact_on f one exact a b = (λ e. one a b ((exact (f a) (f b)).0 e), λ e. (exact (f a) (f b)).1 (ap f e))

-- by the fields of the values; a value is made of its fields again
pub exact_by : {X Y : Type 0} {E : Y → Y → Bool} (fields : X → Y) (make : Y → X) → ((x : X) → make (fields x) ≡ x) → IsExact E → IsExact (λ a b. E (fields a) (fields b))
exact_by fields make again = exact_on fields (λ a b e. sym (again a) ∙ ap make e ∙ again b)

-- ---- the cases of an enum

abbrev pub AreExact : (cases : List (List Field)) → Each Bool cases → Type 0
AreExact [] tests = ⊤
AreExact (case ∷ cases) tests = IsExact tests.0 × AreExact cases tests.1

exact_choices : (cases : List (List Field)) (tests : Each Bool cases) → AreExact cases tests → IsExact (by false false cases tests)
exact_choices [] tests all a b = absurd a
exact_choices (case ∷ cases) tests all (inl x) (inl y) = (λ e. ap inl ((all.0 x y).0 e), λ e. (all.0 x y).1 (cc))
exact_choices (case ∷ cases) tests all (inl x) (inr y) = apart (λ e. cc)
exact_choices (case ∷ cases) tests all (inr x) (inl y) = apart (λ e. cc)
exact_choices (case ∷ cases) tests all (inr x) (inr y) =
    let others = exact_choices cases tests.1 all.1 x y in
    (λ e. ap inr (others.0 e), λ e. others.1 (cc))

-- of an enum whose `==` is derived: `all` has what is exact of each case's fields
pub exact_cases : (N : Record) (tests : Each Bool N.parts) → AreExact N.parts tests → IsExact (of_values N false false tests)
exact_cases N tests all a b =
    let choices = exact_choices N.parts tests all (N.as_values a) (N.as_values b) in
    (λ e. values_one N a b (choices.0 e), λ e. choices.1 (ap N.as_values e))

-- of an enum whose cases have no fields
pub exact_bare : (N : Record) → Bare N.parts → IsExact (sameb (declared N))
exact_bare N bare a b = (same_true (declared N) bare a b, true_same (declared N) a b)
