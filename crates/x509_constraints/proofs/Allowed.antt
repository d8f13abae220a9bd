-- What the sets answer of a key is what the constraints say of the name.
use Rattle.std.proofs.Common.{if◌then◌else◌, ◌==◌, ◌≡◌, ◌↔◌, ◌⊎◌, inl, inr, ℕ, zero, suc, ◌<◌, ◌≤◌, Bool, true, false, ◌||◌, ◌&&◌, not, List, [], ◌∷◌, ◌++◌, refl, sym, ap, ◌∙◌, arith, IsTrue, slice_index_or, eq-eqb}
use Rattle.std.proofs.lemmas.Bool.{and_parts, or_cases}
use Rattle.std.proofs.lemmas.Bool.Decides.{eqb_tells, nat_tests}
use Rattle.std.proofs.lemmas.List.Elements.{All-cons, All-head, All-tail, All-nil}
use Rattle.std.proofs.lemmas.List.Folds.{Any-from_list_any, list_any-append, list_any-from_Any, list_all-append}
use Rattle.std.specs.List.{Any, list_all, list_any}
use Rattle.x509_ext.specs.declared.pkix.general_subtree.GeneralSubtree.{GeneralSubtree}
use Rattle.x509_ext.specs.declared.pkix.name.general_name.GeneralName.{GeneralName}
use Rattle.x509_ext.specs.declared.pkix.name.general_name.GeneralName.TheVariants.{OtherName}
use Rattle.x509_ext.specs.declared.pkix.name_constraints.NameConstraints.{NameConstraints}
use Rattle.x509_constraints.specs.Constraints.{HasForm, IsAllowed, IsAllowedBy, IsExcluded, IsUnclear, IsWithin, IsWithinOne, excluded, form_of, has_unusable, is_comparable, is_usable_subtree, permitted}
use Rattle.x509_constraints.specs.Applied.{IsAskedByKey}
use Rattle.x509_constraints.specs.Marks.{marks_in, rejects}
use Rattle.x509_constraints.specs.Prefixes.{begins, has_prefix}
use Rattle.x509_constraints.specs.SubtreeKeys.{base_prefixes, constrains, excluded_by, excluded_prefixes, excludes, excludes_form, has_form, has_none, is_unusable_for, name_key, open_below, open_form, own_key, permits, permitted_prefixes, prefixes_of}
use Rattle.x509_constraints.proofs.Anys.{Any-by, one_of_all}
use Rattle.x509_constraints.proofs.Marked.{any_swap, marked_answers}
use Rattle.x509_constraints.proofs.Withins.{IsKeyed, excluded_answers, excluded_form, no_host_within, unclear_form, within_answers}

clash : (b : Bool) → b ≡ true → b ≡ false → ⊥
clash b t f = let e : true ≡ false = sym t ∙ f in cc

or_left : (a b : Bool) → a ≡ true → (a || b) ≡ true
or_left true b h = refl
or_left false b h = absurd (cc)

or_right : (a b : Bool) → b ≡ true → (a || b) ≡ true
or_right true b h = refl
or_right false b h = h

or_false : (a b : Bool) → (a || b) ≡ false → (a ≡ false) × (b ≡ false)
or_false true b h = absurd (cc)
or_false false b h = (refl, h)

or_none : (a : Bool) → (a || false) ≡ a
or_none true = refl
or_none false = refl

-- ---- forms

form_test : (f g : ℕ) → (f == g) ≡ true → f ≡ g
form_test f g h = elim (eqb_tells f g) [
  | inl (test, is) ↦ is
  | inr (test, other) ↦ absurd (clash (f == g) h test)
]

pub has_form-HasForm : (f : ℕ) (subtrees : List GeneralSubtree) → has_form f subtrees ≡ true → HasForm f subtrees
has_form-HasForm f subtrees h = Any-by (λ s. (form_of s.base == f) ≡ true) (λ s. form_of s.base ≡ f) (λ s. form_test (form_of s.base) f) subtrees
    (Any-from_list_any (λ s. form_of s.base == f) subtrees h)

pub HasForm-has_form : (f : ℕ) (subtrees : List GeneralSubtree) → HasForm f subtrees → has_form f subtrees ≡ true
HasForm-has_form f subtrees h = list_any-from_Any (λ s. form_of s.base == f) subtrees
    (Any-by (λ s. form_of s.base ≡ f) (λ s. (form_of s.base == f) ≡ true) (λ s. eq-eqb (form_of s.base) f) subtrees h)

-- ---- forms that no subtree has

open_at : (f g : ℕ) (k : List ℕ) (b c : Bool) → (f == g) ≡ c → has_prefix (if b then [] else (g ∷ []) ∷ []) (f ∷ k) ≡ (c && not b)
open_at f g k true true is = refl
open_at f g k true false is = refl
open_at f g k false true is = ap (λ t. (if t then true else false) || false) is
open_at f g k false false is = ap (λ t. (if t then true else false) || false) is

open_none : (subtrees : List GeneralSubtree) (f : ℕ) (k : List ℕ) (n : ℕ) → n ≤ f → has_prefix (open_below subtrees n) (f ∷ k) ≡ false
open_none subtrees f k zero h = refl
open_none subtrees f k (suc n) h =
    let other : (f == n) ≡ false = grind (arith, nat_tests) in
    list_any-append (λ p. begins (f ∷ k) p) (open_below subtrees n) (open_form subtrees n)
    ∙ (ap (λ b. b || has_prefix (open_form subtrees n) (f ∷ k)) (open_none subtrees f k n (omega arith))
    ∙ open_at f n k (has_form n subtrees) false other)

open_has : (subtrees : List GeneralSubtree) (f : ℕ) (k : List ℕ) (n : ℕ) → f < n → has_prefix (open_below subtrees n) (f ∷ k) ≡ not (has_form f subtrees)
open_has subtrees f k zero h = absurd (omega arith)
open_has subtrees f k (suc n) h = list_any-append (λ p. begins (f ∷ k) p) (open_below subtrees n) (open_form subtrees n)
    ∙ by_last (open_has subtrees f k n) (eqb_tells f n)
  where
    by_last : (f < n → has_prefix (open_below subtrees n) (f ∷ k) ≡ not (has_form f subtrees)) →
        (((f == n) ≡ true) × (f ≡ n)) ⊎ (((f == n) ≡ false) × (f ≡ n → ⊥)) →
        (has_prefix (open_below subtrees n) (f ∷ k) || has_prefix (open_form subtrees n) (f ∷ k)) ≡ not (has_form f subtrees)
    by_last earlier (inl (test, is)) =
        ap (λ b. b || has_prefix (open_form subtrees n) (f ∷ k)) (open_none subtrees f k n (omega arith))
        ∙ (open_at f n k (has_form n subtrees) true test ∙ ap (λ m. not (has_form m subtrees)) (sym is))
    by_last earlier (inr (test, other)) =
        ap (λ b. has_prefix (open_below subtrees n) (f ∷ k) || b) (open_at f n k (has_form n subtrees) false test)
        ∙ (or_none (has_prefix (open_below subtrees n) (f ∷ k)) ∙ earlier (omega (arith, other)))

-- ---- one set

one_within : (name : GeneralName) → IsKeyed name → (subtrees : List GeneralSubtree) →
    (has_prefix (prefixes_of subtrees) (name_key name) ≡ true) ↔ IsWithinOne name subtrees
one_within name keyed subtrees =
    one_of_all (λ s. base_prefixes s.base) (name_key name) (λ s. IsWithin name s.base) (λ s. within_answers name s.base keyed) subtrees

one_excluded : (name : GeneralName) → IsKeyed name → (subtrees : List GeneralSubtree) →
    (has_prefix (excluded_prefixes subtrees) (name_key name) ≡ true) ↔ Any (λ s. IsExcluded name s.base) subtrees
one_excluded name keyed subtrees =
    one_of_all (λ s. excluded_by s.base) (name_key name) (λ s. IsExcluded name s.base) (λ s. excluded_answers name s.base keyed) subtrees

none_of_none : (f : ℕ) → HasForm f [] → ⊥
none_of_none f (k, x, inside, at, holds) = absurd (omega arith)

permits_of : (name : GeneralName) → IsKeyed name → form_of name < 9 → (subtrees : List GeneralSubtree) →
    ((has_none subtrees || has_prefix (permitted_prefixes subtrees) (name_key name)) ≡ true) ↔ (HasForm (form_of name) subtrees → IsWithinOne name subtrees)
permits_of name keyed few [] = ((λ h has. absurd (none_of_none (form_of name) has)), (λ h. refl))
permits_of name keyed few (s ∷ rest) = (forth, (λ h. whole ∙ back h (has_form (form_of name) (s ∷ rest)) refl))
  where
    whole : has_prefix (permitted_prefixes (s ∷ rest)) (name_key name)
        ≡ (has_prefix (prefixes_of (s ∷ rest)) (name_key name) || not (has_form (form_of name) (s ∷ rest)))
    whole = list_any-append (λ p. begins (name_key name) p) (prefixes_of (s ∷ rest)) (open_below (s ∷ rest) 9)
        ∙ ap (λ b. has_prefix (prefixes_of (s ∷ rest)) (name_key name) || b) (open_has (s ∷ rest) (form_of name) (own_key name) 9 few)

    forth : has_prefix (permitted_prefixes (s ∷ rest)) (name_key name) ≡ true → HasForm (form_of name) (s ∷ rest) → IsWithinOne name (s ∷ rest)
    forth h has = elim (or_cases (has_prefix (prefixes_of (s ∷ rest)) (name_key name)) (not (has_form (form_of name) (s ∷ rest))) (sym whole ∙ h)) [
      | inl found ↦ (one_within name keyed (s ∷ rest)).0 found
      | inr none ↦ absurd (let e : false ≡ true = sym (ap not (HasForm-has_form (form_of name) (s ∷ rest) has)) ∙ none in cc)
    ]

    back : (HasForm (form_of name) (s ∷ rest) → IsWithinOne name (s ∷ rest)) → (b : Bool) → has_form (form_of name) (s ∷ rest) ≡ b →
        (has_prefix (prefixes_of (s ∷ rest)) (name_key name) || not (has_form (form_of name) (s ∷ rest))) ≡ true
    back h true is = or_left _ _ ((one_within name keyed (s ∷ rest)).1 (h (has_form-HasForm (form_of name) (s ∷ rest) is)))
    back h false is = or_right _ _ (ap not is)

pub form-few : (name : GeneralName) → form_of name < 9
form-few (OtherName n) = omega arith
form-few _ = omega arith

-- the set has a mark against an attribute of the name
abbrev marks_it : GeneralName → NameConstraints → Bool
marks_it name set = list_any (λ key. rejects key set) (marks_in name)

-- what the keys of a name say of a set
pub record SaysNothing (name : GeneralName) (set : NameConstraints) : Type 0 where
  pub permitted : permits (name_key name) set ≡ true
  pub excluded : excludes (name_key name) set ≡ false
  pub marks : marks_it name set ≡ false

-- a set whose subtrees of the form can be used, and compared where they have to
set_answers : (name : GeneralName) → IsKeyed name → (set : NameConstraints) → is_unusable_for (form_of name) set ≡ false →
    (excludes_form (form_of name) set ≡ true → is_comparable name ≡ true) → SaysNothing name set → IsAllowedBy set name
set_answers name keyed set can_use can says = record {
  usable = can_use;
  within_permitted = (permits_of name keyed (form-few name) (permitted set)).0 says.permitted;
  not_excluded = λ any. clash _ ((one_excluded name keyed (excluded set)).1 any) says.excluded;
  compared = λ has. can (HasForm-has_form (form_of name) (excluded set) has);
  clear = λ any. clash _ ((marked_answers name (excluded set)).1 any) says.marks;
}

not_true_is : (b : Bool) → (b ≡ true → ⊥) → b ≡ false
not_true_is true h = absurd (h refl)
not_true_is false h = refl

answers_set : (name : GeneralName) → IsKeyed name → (set : NameConstraints) → IsAllowedBy set name → SaysNothing name set
answers_set name keyed set allowed = record {
  permitted = (permits_of name keyed (form-few name) (permitted set)).1 allowed.within_permitted;
  excluded = not_true_is _ (λ is. allowed.not_excluded ((one_excluded name keyed (excluded set)).0 is));
  marks = not_true_is _ (λ is. allowed.clear ((marked_answers name (excluded set)).0 is));
}

-- ---- all sets

and_true : (a b : Bool) → a ≡ true → b ≡ true → (a && b) ≡ true
and_true true b h k = k
and_true false b h k = absurd (cc)

not_false : (a : Bool) → a ≡ false → not a ≡ true
not_false true h = absurd (cc)
not_false false h = refl

not_true : (a : Bool) → not a ≡ true → a ≡ false
not_true true h = absurd (cc)
not_true false h = refl

-- what the keys of a name say of all sets
pub record SayNothing (name : GeneralName) (sets : List NameConstraints) : Type 0 where
  pub permitted : list_all (permits (name_key name)) sets ≡ true
  pub excluded : list_any (excludes (name_key name)) sets ≡ false
  pub marks : list_any (marks_it name) sets ≡ false

all_answers : (name : GeneralName) → IsKeyed name → (sets : List NameConstraints) → list_any (is_unusable_for (form_of name)) sets ≡ false →
    (list_any (excludes_form (form_of name)) sets ≡ true → is_comparable name ≡ true) → SayNothing name sets → IsAllowed sets name
all_answers name keyed [] can_use can says = All-nil (λ set. IsAllowedBy set name)
all_answers name keyed (set ∷ sets) can_use can says =
    let used = or_false (is_unusable_for (form_of name) set) (list_any (is_unusable_for (form_of name)) sets) can_use in
    let both = and_parts (permits (name_key name) set) (list_all (permits (name_key name)) sets) says.permitted in
    let none = or_false (excludes (name_key name) set) (list_any (excludes (name_key name)) sets) says.excluded in
    let free = or_false (marks_it name set) (list_any (marks_it name) sets) says.marks in
    All-cons (λ s. IsAllowedBy s name) set sets
    (set_answers name keyed set used.0 (λ h. can (or_left _ _ h)) (record { permitted = both.0; excluded = none.0; marks = free.0 }))
    (all_answers name keyed sets used.1 (λ h. can (or_right _ _ h)) (record { permitted = both.1; excluded = none.1; marks = free.1 }))

answers_all : (name : GeneralName) → IsKeyed name → (sets : List NameConstraints) → IsAllowed sets name → SayNothing name sets
answers_all name keyed [] h = record { permitted = refl; excluded = refl; marks = refl }
answers_all name keyed (set ∷ sets) h =
    let own = answers_set name keyed set (All-head (λ s. IsAllowedBy s name) set sets h) in
    let others = answers_all name keyed sets (All-tail (λ s. IsAllowedBy s name) set sets h) in
    record {
      permitted = and_true _ _ own.permitted others.permitted;
      excluded = ap (λ b. b || list_any (excludes (name_key name)) sets) own.excluded ∙ others.excluded;
      marks = ap (λ b. b || list_any (marks_it name) sets) own.marks ∙ others.marks;
    }

-- marks looked up one after the other, as sets hold them
marks_round : (name : GeneralName) (sets : List NameConstraints) → list_any (λ key. list_any (rejects key) sets) (marks_in name) ≡ list_any (marks_it name) sets
marks_round name sets = any_swap (λ key set. rejects key set) (marks_in name) sets

pub key_answers : (name : GeneralName) (sets : List NameConstraints) (key : List ℕ) (b p e m : Bool) → IsAskedByKey sets name → key ≡ name_key name →
    p ≡ list_all (permits key) sets → e ≡ list_any (excludes key) sets → m ≡ list_any (λ k. list_any (rejects k) sets) (marks_in name) → m ≡ false →
    b ≡ (p && not e) → IsTrue b ↔ IsAllowed sets name
key_answers name sets key b p e m asked is_key is_p is_e is_m free is_b =
    let in_all : p ≡ list_all (permits (name_key name)) sets = is_p ∙ ap (λ k. list_all (permits k) sets) is_key in
    let in_some : e ≡ list_any (excludes (name_key name)) sets = is_e ∙ ap (λ k. list_any (excludes k) sets) is_key in
    let unmarked : list_any (marks_it name) sets ≡ false = sym (marks_round name sets) ∙ (sym is_m ∙ free) in (
      (λ holds. let both = and_parts p (not e) (sym is_b ∙ holds) in
          all_answers name asked.host sets asked.usable asked.compared
          (record { permitted = sym in_all ∙ both.0; excluded = sym in_some ∙ not_true e both.1; marks = unmarked })),
      (λ allowed. let says = answers_all name asked.host sets allowed in
          is_b ∙ and_true p (not e) (in_all ∙ says.permitted) (not_false e (in_some ∙ says.excluded))),
    )

pub marked_refused : (name : GeneralName) (sets : List NameConstraints) (m : Bool) → IsAskedByKey sets name →
    m ≡ list_any (λ k. list_any (rejects k) sets) (marks_in name) → m ≡ true → IsTrue false ↔ IsAllowed sets name
marked_refused name sets m asked is_m marked = (
  (λ h. absurd (let e : false ≡ true = h in cc)),
  (λ allowed. absurd (clash _ (sym (marks_round name sets) ∙ (sym is_m ∙ marked)) (answers_all name asked.host sets allowed).marks)),
)

-- ---- where the form isn't constrained

none_unusable : (f : ℕ) (subtrees : List GeneralSubtree) → has_form f subtrees ≡ false → has_unusable f subtrees ≡ false
none_unusable f [] h = refl
none_unusable f (s ∷ subtrees) h =
    let both = or_false (form_of s.base == f) (has_form f subtrees) h in
    ap (λ t. (t && not (is_usable_subtree s)) || has_unusable f subtrees) both.0 ∙ none_unusable f subtrees both.1

free_of : (name : GeneralName) (set : NameConstraints) → constrains (form_of name) set ≡ false → IsAllowedBy set name
free_of name set h =
    let both = or_false (has_form (form_of name) (permitted set)) (has_form (form_of name) (excluded set)) h in
    record {
      usable = ap (λ t. t || has_unusable (form_of name) (excluded set)) (none_unusable (form_of name) (permitted set) both.0)
          ∙ none_unusable (form_of name) (excluded set) both.1;
      within_permitted = λ has. absurd (clash _ (HasForm-has_form (form_of name) (permitted set) has) both.0);
      not_excluded = λ any. clash _ (HasForm-has_form (form_of name) (excluded set) (Any-by (λ s. IsExcluded name s.base) (λ s. form_of s.base ≡ form_of name)
          (λ s. excluded_form name s.base) (excluded set) any)) both.1;
      compared = λ has. absurd (clash _ (HasForm-has_form (form_of name) (excluded set) has) both.1);
      clear = λ any. clash _ (HasForm-has_form (form_of name) (excluded set) (Any-by (λ s. IsUnclear name s.base) (λ s. form_of s.base ≡ form_of name)
          (λ s. unclear_form name s.base) (excluded set) any)) both.1;
    }

free_all : (name : GeneralName) (sets : List NameConstraints) → list_any (constrains (form_of name)) sets ≡ false → IsAllowed sets name
free_all name [] h = All-nil (λ set. IsAllowedBy set name)
free_all name (set ∷ sets) h =
    let both = or_false (constrains (form_of name) set) (list_any (constrains (form_of name)) sets) h in
    All-cons (λ s. IsAllowedBy s name) set sets (free_of name set both.0) (free_all name sets both.1)

pub free_answers : (name : GeneralName) (sets : List NameConstraints) (c : Bool) → c ≡ list_any (constrains (form_of name)) sets → c ≡ false →
    IsTrue true ↔ IsAllowed sets name
free_answers name sets c is none = ((λ h. free_all name sets (sym is ∙ none)), (λ allowed. refl))

-- ---- where some set refuses names of the form

-- what no name is allowed by, one of the sets is
some_refuses : (test : NameConstraints → Bool) (name : GeneralName) (sets : List NameConstraints) →
    ((set : NameConstraints) → test set ≡ true → IsAllowedBy set name → ⊥) → list_any test sets ≡ true → IsAllowed sets name → ⊥
some_refuses test name [] each h allowed = absurd (cc)
some_refuses test name (set ∷ sets) each h allowed = elim (or_cases (test set) (list_any test sets) h) [
  | inl own ↦ each set own (All-head (λ s. IsAllowedBy s name) set sets allowed)
  | inr others ↦ some_refuses test name sets each others (All-tail (λ s. IsAllowedBy s name) set sets allowed)
]

refused_by : (test : NameConstraints → Bool) (name : GeneralName) (sets : List NameConstraints) →
    ((set : NameConstraints) → test set ≡ true → IsAllowedBy set name → ⊥) → list_any test sets ≡ true → IsTrue false ↔ IsAllowed sets name
refused_by test name sets each h = ((λ t. absurd (let e : false ≡ true = t in cc)), (λ allowed. absurd (some_refuses test name sets each h allowed)))

pub unusable_answers : (name : GeneralName) (sets : List NameConstraints) (c : Bool) → c ≡ list_any (is_unusable_for (form_of name)) sets → c ≡ true →
    IsTrue false ↔ IsAllowed sets name
unusable_answers name sets c is some =
    refused_by (is_unusable_for (form_of name)) name sets (λ set bad allowed. clash _ bad allowed.usable) (sym is ∙ some)

not_compared : (name : GeneralName) → is_comparable name ≡ false → (set : NameConstraints) → excludes_form (form_of name) set ≡ true → IsAllowedBy set name → ⊥
not_compared name nothing set has allowed = clash _ (allowed.compared (has_form-HasForm (form_of name) (excluded set) has)) nothing

no_host : (name : GeneralName) → is_comparable name ≡ false → form_of name ≡ 6 → (set : NameConstraints) → constrains (form_of name) set ≡ true →
    IsAllowedBy set name → ⊥
no_host name nothing is set has allowed = elim (or_cases (has_form (form_of name) (permitted set)) (has_form (form_of name) (excluded set)) has) [
  | inl own ↦ none (allowed.within_permitted (has_form-HasForm (form_of name) (permitted set) own))
  | inr other ↦ not_compared name nothing set other allowed
]
  where
    none : IsWithinOne name (permitted set) → ⊥
    none (k, s, inside, at, holds) = no_host_within name s.base is nothing holds

pub refused_answers : (name : GeneralName) (sets : List NameConstraints) (c e : Bool) → c ≡ list_any (constrains (form_of name)) sets → c ≡ true →
    e ≡ list_any (excludes_form (form_of name)) sets → (e || (form_of name == 6)) ≡ true → is_comparable name ≡ false → IsTrue false ↔ IsAllowed sets name
refused_answers name sets c e is some is_e asks nothing = elim (or_cases e (form_of name == 6) asks) [
  | inl excluding ↦ refused_by (excludes_form (form_of name)) name sets (not_compared name nothing) (sym is_e ∙ excluding)
  | inr uri ↦ refused_by (constrains (form_of name)) name sets (no_host name nothing (form_test (form_of name) 6 uri)) (sym is ∙ some)
]

-- asked by its key else
pub asked_answers : (name : GeneralName) (sets : List NameConstraints) (u e can : Bool) → u ≡ list_any (is_unusable_for (form_of name)) sets → u ≡ false →
    e ≡ list_any (excludes_form (form_of name)) sets → is_comparable name ≡ can → ((can ≡ false) → (e || (form_of name == 6)) ≡ false) → IsAskedByKey sets name
asked_answers name sets u e true is_u none is_e can asks = record { usable = sym is_u ∙ none; compared = λ h. can; host = λ h. can }
asked_answers name sets u e false is_u none is_e can asks =
    let both = or_false e (form_of name == 6) (asks refl) in
    record {
      usable = sym is_u ∙ none;
      compared = λ h. absurd (clash _ (is_e ∙ h) both.0);
      host = λ h. absurd (clash _ (eq-eqb (form_of name) 6 h) both.1);
    }

-- ---- another set

pub all_more : {X : Type 0} (p : X → Bool) (xs : List X) (x : X) (a b : Bool) → a ≡ list_all p xs → b ≡ (a && p x) → b ≡ list_all p (xs ++ x ∷ [])
all_more p xs x a b was is = is ∙ (ap (λ t. t && p x) was ∙ (ap (λ t. list_all p xs && t) (sym (and_one (p x))) ∙ sym (list_all-append p xs (x ∷ []))))
  where
    and_one : (t : Bool) → (t && true) ≡ t
    and_one true = refl
    and_one false = refl

pub any_more : {X : Type 0} (p : X → Bool) (xs : List X) (x : X) (a b : Bool) → a ≡ list_any p xs → b ≡ (a || p x) → b ≡ list_any p (xs ++ x ∷ [])
any_more p xs x a b was is = is ∙ (ap (λ t. t || p x) was ∙ (ap (λ t. list_any p xs || t) (sym (or_one (p x))) ∙ sym (list_any-append p xs (x ∷ []))))
  where
    or_one : (t : Bool) → (t || false) ≡ t
    or_one true = refl
    or_one false = refl

-- ---- an array of nine

pub nine : (r0 r1 r2 r3 r4 r5 r6 r7 r8 : Bool) (f : ℕ → Bool) → r0 ≡ f 0 → r1 ≡ f 1 → r2 ≡ f 2 → r3 ≡ f 3 → r4 ≡ f 4 → r5 ≡ f 5 → r6 ≡ f 6 →
    r7 ≡ f 7 → r8 ≡ f 8 → (form : ℕ) → form < 9 →
    slice_index_or (r0 ∷ r1 ∷ r2 ∷ r3 ∷ r4 ∷ r5 ∷ r6 ∷ r7 ∷ r8 ∷ []) form false ≡ f form
nine r0 r1 r2 r3 r4 r5 r6 r7 r8 f e0 e1 e2 e3 e4 e5 e6 e7 e8 zero h = e0
nine r0 r1 r2 r3 r4 r5 r6 r7 r8 f e0 e1 e2 e3 e4 e5 e6 e7 e8 (suc zero) h = e1
nine r0 r1 r2 r3 r4 r5 r6 r7 r8 f e0 e1 e2 e3 e4 e5 e6 e7 e8 (suc (suc zero)) h = e2
nine r0 r1 r2 r3 r4 r5 r6 r7 r8 f e0 e1 e2 e3 e4 e5 e6 e7 e8 (suc (suc (suc zero))) h = e3
nine r0 r1 r2 r3 r4 r5 r6 r7 r8 f e0 e1 e2 e3 e4 e5 e6 e7 e8 (suc (suc (suc (suc zero)))) h = e4
nine r0 r1 r2 r3 r4 r5 r6 r7 r8 f e0 e1 e2 e3 e4 e5 e6 e7 e8 (suc (suc (suc (suc (suc zero))))) h = e5
nine r0 r1 r2 r3 r4 r5 r6 r7 r8 f e0 e1 e2 e3 e4 e5 e6 e7 e8 (suc (suc (suc (suc (suc (suc zero)))))) h = e6
nine r0 r1 r2 r3 r4 r5 r6 r7 r8 f e0 e1 e2 e3 e4 e5 e6 e7 e8 (suc (suc (suc (suc (suc (suc (suc zero))))))) h = e7
nine r0 r1 r2 r3 r4 r5 r6 r7 r8 f e0 e1 e2 e3 e4 e5 e6 e7 e8 (suc (suc (suc (suc (suc (suc (suc (suc zero)))))))) h = e8
nine r0 r1 r2 r3 r4 r5 r6 r7 r8 f e0 e1 e2 e3 e4 e5 e6 e7 e8 (suc (suc (suc (suc (suc (suc (suc (suc (suc n))))))))) h = absurd (omega arith)
