-- OIDs in the order of their octets, and one that is looked for among them.
use Rattle.std.proofs.Common.{◌≡◌, ◌∙◌, inl, inr, ℕ, ◌<◌, ◌||◌, Bool, true, false, not, List, [], ◌∷◌, length, get_or, map, Result, Ok, Err, refl, sym, ap, arith}
use Rattle.std.proofs.Math.Path.{fun_ext}
use Rattle.std.specs.Borrow.{Bor}
use Rattle.std.specs.Cmp.Lexicographic.{slice_cmp}
use Rattle.std.specs.List.{list_any}
use Rattle.std.specs.List.Sorted.{IsPermutation, IsSorted, IsBinarySearchResult, IsSearchInRange}
use Rattle.std.specs.Ordering.{nat_cmp, is_eq}
use Rattle.std.specs.Result.{is_ok}
use Rattle.std.specs.Str.{bytes_eq}
use Rattle.std.specs.declared.cmp.Ordering.{Ordering}
use Rattle.std.specs.declared.cmp.Ordering.TheVariants.{Less, Equal, Greater}
use Rattle.std.proofs.lemmas.Bool.{cases_lt}
use Rattle.std.proofs.lemmas.Cmp.{nat_list_cmp_total}
use Rattle.std.proofs.lemmas.List.Folds.{list_any_at, list_any_none}
use Rattle.std.proofs.lemmas.List.Sorted.{list_any-IsPermutation, searchable_from_sorted}
use Rattle.std.proofs.lemmas.Map.Text.{is_eq-slice_cmp}
use Rattle.x509_ext.specs.declared.pkix.policy_information.PolicyInformation.{PolicyInformation}
use Rattle.x509_ext.specs.declared.pkix.policy_mapping.PolicyMapping.{PolicyMapping}
use Rattle.x509_lint.specs.Values.{is_unasserted, policy_identifiers}

abbrev pub Lent : Type 0
Lent = Bor (List ℕ)

abbrev pub Order : Lent → Lent → Ordering
Order p q = slice_cmp nat_cmp p.now q.now

abbrev pub octets_of : List Lent → List (List ℕ)
octets_of xs = map (λ (q : Lent). q.now) xs

-- ---- looking for one

module _ (set : List Lent) (up : IsSorted Order set) (oid : List ℕ) where
  abbrev Test : Lent → Bool
  Test q = bytes_eq q.now oid

  differs : (q : Lent) (o : Ordering) → is_eq o ≡ false → slice_cmp nat_cmp q.now oid ≡ o → Test q ≡ false
  differs q o n e = sym (is_eq-slice_cmp q.now oid) ∙ (ap is_eq e ∙ n)

  at_place : (xs : List Lent) (i : ℕ) → i < length xs → ((d : Lent) → slice_cmp nat_cmp (get_or xs i d).now oid ≡ Equal) → list_any Test xs ≡ true
  at_place [] i within at = absurd (omega arith)
  at_place (x ∷ xs) i within at = list_any_at Test (x ∷ xs) i x within (sym (is_eq-slice_cmp (get_or (x ∷ xs) i x).now oid) ∙ ap is_eq (at x))

  pub found : (r : Result ℕ ℕ) → IsSearchInRange r (length set) → IsBinarySearchResult (λ (q : Lent). slice_cmp nat_cmp q.now oid) set r → (b : Bool) → b ≡ is_ok r → b ≡ list_any (λ (q : Lent). bytes_eq q.now oid) set
  found (Ok i) within at b e = e ∙ sym (at_place set i within at)
  found (Err i) within place b e =
      let (below, above) = place (searchable_from_sorted (nat_list_cmp_total) (λ (q : Lent). q.now) set oid up) in
      e ∙ sym (list_any_none Test set (λ k d in_set. elim (cases_lt k i) [
        | inl left ↦ differs (get_or set k d) Less refl (below k d (omega arith) left)
        | inr right ↦ differs (get_or set k d) Greater refl (above k d right in_set)
      ]))

-- ---- those of policies

listed : (xs : List Lent) (oid : List ℕ) → list_any (λ (q : Lent). bytes_eq q.now oid) xs ≡ list_any (λ q. bytes_eq q oid) (octets_of xs)
listed [] oid = refl
listed (x ∷ xs) oid = ap (λ b. bytes_eq x.now oid || b) (listed xs oid)

named : (ps : List PolicyInformation) (oid : List ℕ) → list_any (λ q. bytes_eq q oid) (policy_identifiers ps) ≡ list_any (λ (p : PolicyInformation). bytes_eq p.policy_identifier oid) ps
named [] oid = refl
named (p ∷ ps) oid = ap (λ b. bytes_eq p.policy_identifier oid || b) (named ps oid)

-- where they are those of the policies, in another order, a mapping lacks one just where it isn't asserted
pub same : (xs ys : List Lent) (ps : List PolicyInformation) (ms : List PolicyMapping) → octets_of xs ≡ policy_identifiers ps → IsPermutation xs ys
    → list_any (λ (m : PolicyMapping). not (list_any (λ (o : Lent). bytes_eq o.now m.issuer_domain_policy) ys)) ms ≡ list_any (is_unasserted ps) ms
same xs ys ps ms e moved = ap (λ test. list_any test ms) (fun_ext (λ (m : PolicyMapping). ap not (
    sym (list_any-IsPermutation (λ (o : Lent). bytes_eq o.now m.issuer_domain_policy) xs ys moved)
    ∙ listed xs m.issuer_domain_policy
    ∙ ap (list_any (λ q. bytes_eq q m.issuer_domain_policy)) e
    ∙ named ps m.issuer_domain_policy)))
