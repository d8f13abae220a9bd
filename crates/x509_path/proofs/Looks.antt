-- Look-ups among lent extensions.
use Rattle.std.proofs.Common.{◌≡◌, ◌↔◌, ◌∙◌, ℕ, suc, ◌+◌, ◌<◌, ◌≤◌, true, false, List, [], ◌∷◌, length, take, drop, get_or, bytes_eq, refl, sym, ap, subst, arith}
use Rattle.std.proofs.Math.Seq.{drop-cons}
use Rattle.std.proofs.lemmas.Slice.Eq.{bytes_eq-Decides}
use Rattle.std.proofs.lemmas.List.Elements.{All-nil, All-cons, All-head, All-map, All-more, All-tail}
use Rattle.std.proofs.lemmas.List.{take_all}
use Rattle.std.proofs.lemmas.Bool.{true≢false}
use Rattle.std.specs.Bool.{IsTrue}
use Rattle.std.specs.List.{All}
use Rattle.x509_check.specs.ExtensionRefs.{lent_extension}
use Rattle.x509_check.specs.declared.lent.extension.ExtensionRef.{ExtensionRef}
use Rattle.x509_ext.specs.LookUp.{IsRepeated, with_oid}
use Rattle.x509_ext.specs.declared.extension.Extension.{Extension}
use Rattle.x509_ext.proofs.Repeats.{passed}
use Rattle.x509_path.specs.Lent.{lent_extensions}

module _ (refs : List ExtensionRef) (i : ℕ) (e : ExtensionRef) (less : i < length refs) (is : e ≡ get_or refs i e) where
  next : suc i ≡ i + 1
  next = omega arith

  front : lent_extensions (drop i refs) ≡ lent_extension e ∷ lent_extensions (drop (i + 1) refs)
  front = ap lent_extensions (drop-cons refs i e less ∙ ap (λ x. x ∷ drop (suc i) refs) (sym is) ∙ ap (λ n. e ∷ drop n refs) next)

  pub apart : with_oid e.extn_id (lent_extensions (drop (i + 1) refs)) ≡ [] → IsRepeated (lent_extensions (drop i refs)) ↔ IsRepeated (lent_extensions (drop (i + 1) refs))
  apart none = rw front (passed (lent_extension e) (lent_extensions (drop (i + 1) refs)) none)

  first : with_oid e.extn_id (lent_extension e ∷ lent_extensions (drop (i + 1) refs)) ≡ lent_extension e ∷ with_oid e.extn_id (lent_extensions (drop (i + 1) refs))
  first = let same : (bytes_eq e.extn_id e.extn_id) ≡ true = (bytes_eq-Decides e.extn_id e.extn_id).1 refl in rw same refl

  pub again : 1 ≤ length (with_oid e.extn_id (lent_extensions (drop (i + 1) refs))) → IsRepeated (lent_extensions (drop i refs))
  again some = rw front (e.extn_id, omega (arith, some, ap length first))

-- what holds of all that are lent
module _ (P : Extension → Type 0) where
  abbrev pub OfLent : ExtensionRef → Type 0
  OfLent e = P (lent_extension e)

  lent_all : (refs : List ExtensionRef) → All P (lent_extensions refs) → All OfLent refs
  lent_all [] all = All-nil OfLent
  lent_all (e ∷ refs) all = All-cons OfLent e refs (All-head P (lent_extension e) (lent_extensions refs) all) (lent_all refs (All-tail P (lent_extension e) (lent_extensions refs) all))

  -- while they are asked one after the other
  module _ (refs : List ExtensionRef) (i : ℕ) where
    pub all_hold : length refs ≤ i → All OfLent (take i refs) → IsTrue true ↔ All P (lent_extensions refs)
    all_hold past all = ((λ is. All-map P lent_extension refs (subst (All OfLent) (take_all i refs past) all)), (λ is. refl))

    module _ (e : ExtensionRef) (less : i < length refs) (is : e ≡ get_or refs i e) where
      pub one_fails : (OfLent e → ⊥) → IsTrue false ↔ All P (lent_extensions refs)
      one_fails fails = ((λ never. absurd (true≢false (sym never))), (λ all. absurd (fails (subst OfLent (sym is) (lent_all refs all i e less)))))

      pub one_more : OfLent e → All OfLent (take i refs) → All OfLent (take (i + 1) refs)
      one_more holds all = All-more OfLent refs i e less all (subst OfLent is holds)
