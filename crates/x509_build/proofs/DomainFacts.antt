-- Facts on the names of which only some attributes are kept.
use Rattle.std.proofs.Common.{◌≡◌, ◌+◌, ◌<◌, ◌≤◌, ℕ, Bool, true, false, List, [], ◌∷◌, ◌++◌, length, get_or, take, map, Result, Ok, Err, IfOk, IfErr, refl, sym, ap, ◌∙◌, arith, add-one, not}
use Rattle.std.specs.List.{filter}
use Rattle.std.specs.List.Sorted.{IsStrictlySortedBy, IsPermutation}
use Rattle.std.specs.declared.cmp.Ordering.TheVariants.{Less, Equal}
use Rattle.std.proofs.Math.Seq.{take-suc}
use Rattle.std.proofs.lemmas.Cmp.{tied_itself}
use Rattle.std.proofs.lemmas.List.Kept.{IsStrictlySortedBy-filter}
use Rattle.std.proofs.lemmas.List.{append-nil, map-append, take_all}
use Rattle.std.proofs.lemmas.List.Elements.{filter-append}
use Rattle.std.proofs.lemmas.List.Sorted.{IsPermutation-sym}
use Rattle.std.proofs.lemmas.Map.Keys.{Less-from_sorted}
use Rattle.x509_build.specs.Domain.{domain_attributes, domain_name, is_domain_type, is_nil}
use Rattle.x509_der.specs.declared.error.Error.{Error}
use Rattle.x509_der.specs.declared.error.ErrorKind.TheVariants.{Memory, SetDuplicate}
use Rattle.x509_der.specs.Set.{AreDistinct}
use Rattle.x509_name.specs.TypeAndValue.{type_and_value_cmp, type_and_value_total}
use Rattle.x509_name.specs.declared.attr.type_and_value.AttributeTypeAndValue.{AttributeTypeAndValue}

-- ---- one relative name

distinct : (attributes : List AttributeTypeAndValue) → IsStrictlySortedBy type_and_value_cmp attributes → AreDistinct attributes
distinct attributes sorted i j other before within same =
    let less = Less-from_sorted type_and_value_cmp attributes i j other sorted before within in
    let itself = tied_itself type_and_value_total (get_or attributes j other) in
    let again : type_and_value_cmp (get_or attributes j other) (get_or attributes j other) ≡ Less = rw same at less in
    absurd (cc)

module _ (rdn kept : List AttributeTypeAndValue) (is : kept ≡ domain_attributes rdn) (sorted : IsStrictlySortedBy type_and_value_cmp rdn) where
  kept_sorted : IsStrictlySortedBy type_and_value_cmp kept
  kept_sorted = rw is (IsStrictlySortedBy-filter type_and_value_cmp (λ a. is_domain_type a.oid) rdn sorted)

  pub set_of_kept : ((a b : List AttributeTypeAndValue) → IsStrictlySortedBy type_and_value_cmp a → IsStrictlySortedBy type_and_value_cmp b → IsPermutation a b → a ≡ b) → (answer : Result (List AttributeTypeAndValue) Error) → IfOk answer (λ set. IsPermutation kept set × IsStrictlySortedBy type_and_value_cmp set) → IfOk answer (λ set. set ≡ domain_attributes rdn)
  set_of_kept one_set (Ok set) h = one_set set kept h.1 kept_sorted (IsPermutation-sym kept set h.0) ∙ is
  set_of_kept one_set (Err e) h = h

  pub kept_is_set : (answer : Result (List AttributeTypeAndValue) Error) → IfErr answer (λ e. (e.kind ≡ SetDuplicate) × (AreDistinct kept → ⊥)) → IfErr answer (λ e. e.kind ≡ Memory)
  kept_is_set (Ok set) h = h
  kept_is_set (Err e) h = absurd (h.1 (distinct kept kept_sorted))

-- at the end of the walk over the attributes
pub all_attributes : (attributes rdn kept : List AttributeTypeAndValue) (n : ℕ) → kept ≡ domain_attributes (take n attributes) → length attributes ≤ n → attributes ≡ rdn → kept ≡ domain_attributes rdn
all_attributes attributes rdn kept n is past same = is ∙ rw (take_all n attributes past, same) refl
