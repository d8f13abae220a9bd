-- Facts for the walk over the relative names of a name.
use Rattle.std.proofs.Common.{◌≡◌, ◌+◌, ◌<◌, ◌≤◌, inl, inr, ℕ, Bool, true, false, List, [], ◌∷◌, ◌++◌, length, get_or, take, Some, None, refl, ap, ◌∙◌, arith, add-one, nat_lt}
use Rattle.std.specs.Prelude.{bytes_eq, nat_le}
use Rattle.std.specs.List.{list_any}
use Rattle.std.proofs.Math.Seq.{take-suc}
use Rattle.std.proofs.lemmas.Bool.{or_parts, le-leb, le-ltb, cases_Bool, cases_lt}
use Rattle.std.proofs.lemmas.Option.{slice_get_read, slice_get_past}
use Rattle.std.proofs.lemmas.Slice.Eq.{bytes_eq-Decides}
use borrow.Author.Count.{below_more}
use Rattle.x509_name.specs.declared.attr.type_and_value.AttributeTypeAndValue.{AttributeTypeAndValue}
use Rattle.x509_build.specs.Order.{break_at, break_of, has_from, has_type, is_from, is_there, place_of}

-- ---- a type behind all others is a new one

another_type : (oid : List ℕ) (place : ℕ) (a : AttributeTypeAndValue) → place_of oid ≡ Some place → is_from place (place_of a.oid) ≡ false → bytes_eq a.oid oid ≡ false
another_type oid place a at none = elim (cases_Bool (bytes_eq a.oid oid)) [
  | inl same ↦
      let found : place_of a.oid ≡ Some place = ap place_of ((bytes_eq-Decides a.oid oid).0 same) ∙ at in
      let before : nat_le place place ≡ false = rw found at none in
      let from = le-leb place place (omega arith) in
      absurd (cc)
  | inr other ↦ other
]

not_there : (oid : List ℕ) (place : ℕ) (rdn : List AttributeTypeAndValue) → place_of oid ≡ Some place → list_any (λ a. is_from place (place_of a.oid)) rdn ≡ false → is_there oid rdn ≡ false
not_there oid place [] at none = refl
not_there oid place (a ∷ rdn) at none =
    let parts = or_parts (is_from place (place_of a.oid)) (list_any (λ b. is_from place (place_of b.oid)) rdn) none in
    rw (another_type oid place a at parts.0) (not_there oid place rdn at parts.1)

pub new_type : (oid : List ℕ) (place : ℕ) (rdns : List (List AttributeTypeAndValue)) → place_of oid ≡ Some place → has_from place rdns ≡ false → has_type oid rdns ≡ false
new_type oid place [] at none = refl
new_type oid place (rdn ∷ rdns) at none =
    let parts = or_parts (list_any (λ b. is_from place (place_of b.oid)) rdn) (has_from place rdns) none in
    rw (not_there oid place rdn at parts.0) (new_type oid place rdns at parts.1)

-- so an attribute of such a type breaks nothing
unbroken : (multiple_allowed : Bool) (earlier : List (List AttributeTypeAndValue)) (a : AttributeTypeAndValue) (place : ℕ) → place_of a.oid ≡ Some place → has_from place earlier ≡ false → break_of multiple_allowed earlier (a ∷ []) ≡ None
unbroken true earlier a place at none = rw (at, none) refl
unbroken false earlier a place at none = rw (new_type a.oid place earlier at none, at, none) refl

only_one : {X : Type 0} (xs : List X) (x : X) → 1 ≤ length xs → length xs < 2 → x ≡ get_or xs 0 x → xs ≡ x ∷ []
only_one [] x some one is = absurd (omega arith)
only_one (y ∷ []) x some one is = rw is refl
only_one (y ∷ z ∷ xs) x some one is = absurd (omega arith)

pub one_unbroken : (multiple_allowed : Bool) (earlier : List (List AttributeTypeAndValue)) (rdn : List AttributeTypeAndValue) (a : AttributeTypeAndValue) (place next : ℕ) → 1 ≤ length rdn → length rdn < 2 → a ≡ get_or rdn 0 a → place_of a.oid ≡ Some place → next ≤ place → ((p : ℕ) → has_from p earlier ≡ nat_lt p next) → break_of multiple_allowed earlier rdn ≡ None
one_unbroken multiple_allowed earlier rdn a place next some one is at late behind =
    rw (only_one rdn a some one is) (unbroken multiple_allowed earlier a place at (behind place ∙ le-ltb place next late))

-- ---- one relative name more

module _ (name : List (List AttributeTypeAndValue)) (i : ℕ) (rdn : List AttributeTypeAndValue) (here : i < length name) (is : rdn ≡ get_or name i rdn) where
  pub break_here : (multiple_allowed : Bool) → break_at multiple_allowed name i ≡ break_of multiple_allowed (take i name) rdn
  break_here multiple_allowed = rw (slice_get_read name (length name) i rdn refl here is) refl

  pub kept_more : (multiple_allowed : Bool) → ((k : ℕ) → k < i → break_at multiple_allowed name k ≡ None) → break_of multiple_allowed (take i name) rdn ≡ None → (k : ℕ) → k < i + 1 → break_at multiple_allowed name k ≡ None
  kept_more multiple_allowed kept keeps = below_more (λ k. break_at multiple_allowed name k ≡ None) i kept (break_here multiple_allowed ∙ keeps)

  pub one_more : take (i + 1) name ≡ take i name ++ rdn ∷ []
  one_more = rw (add-one, take-suc name i rdn here, ← is) refl

  pub behind_more : (next : ℕ) → ((place : ℕ) → has_from place (take i name ++ rdn ∷ []) ≡ nat_lt place next) → (place : ℕ) → has_from place (take (i + 1) name) ≡ nat_lt place next
  behind_more next behind place = rw one_more (behind place)

pub all_kept : (name : List (List AttributeTypeAndValue)) (i : ℕ) (multiple_allowed : Bool) → length name ≤ i → ((k : ℕ) → k < i → break_at multiple_allowed name k ≡ None) → (k : ℕ) → break_at multiple_allowed name k ≡ None
all_kept name i multiple_allowed past kept k = elim (cases_lt k (length name)) [
  | inl within ↦ kept k (omega arith)
  | inr out ↦ rw (slice_get_past name k out) refl
]
