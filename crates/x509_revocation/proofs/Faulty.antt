-- What is asked of a CRL, one fault after the other.
use Rattle.std.proofs.Common.{◌≡◌, ◌↔◌, ◌∙◌, ℕ, suc, ◌<◌, Bool, true, false, not, List, ◌++◌, length, take, drop, get_or, Option, Some, None, refl, sym, ap, subst, arith}
use Rattle.std.proofs.Math.Seq.{drop-cons}
use Rattle.std.proofs.lemmas.Bool.{true≢false}
use Rattle.std.proofs.lemmas.List.{take-append-drop}
use Rattle.std.specs.Bool.{IsTrue}
use Rattle.std.specs.List.{All}
use Rattle.x509_ext.specs.RevocationEquality.{exact_reasons}
use Rattle.x509_ext.specs.contracts.pkix.reasons.ReasonsPartialEq.TheImpl as reasons_eq
use Rattle.x509_ext.specs.declared.pkix.issuing_distribution_point.IssuingDistributionPoint.{IssuingDistributionPoint}
use Rattle.x509_ext.specs.declared.pkix.reasons.Reasons.{Reasons}
use Rattle.x509_path.proofs.Lent.{differ}
use Rattle.x509_path.specs.Certificates.{Accepting, Certificate}
use Rattle.x509_path.specs.Lent.{LendsAnchor}
use Rattle.x509_path.specs.Path.{IsFirst}
use Rattle.x509_path.specs.declared.anchor.Anchor.{Anchor}
use Rattle.x509_path.specs.declared.anchor_ref.AnchorRef.{AnchorRef}
use Rattle.x509_revocation.specs.Crls.{Crl, HasList, HaveOneKey, IsSigned, IsSignedBy}
use Rattle.x509_revocation.specs.Faults.{OfList, faults}
use Rattle.x509_revocation.specs.Lent.{LendsSigner}
use Rattle.x509_revocation.specs.Points.{all_reasons}
use Rattle.x509_revocation.specs.Says.{Covers}
use Rattle.x509_revocation.specs.Status.{AddsTo, minus}
use Rattle.x509_revocation.specs.declared.fault.CrlFault.{CrlFault}
use Rattle.x509_revocation.specs.declared.fault.CrlFault.TheVariants.{NotYetValid, Expired, Critical, Algorithm, Delta, IssuingPoint, Issuer, Scope, Point, Signer, Signature, Entry, Replaced}
use Rattle.x509_revocation.proofs.OneCover.{one_cover, one_list}
use Rattle.x509_revocation.proofs.Signed.{never}

-- ---- by the one IssuingDistributionPoint

module _ (crl : Crl) (holds : Option IssuingDistributionPoint → Type 0) where
  pub by_list : (list : Option IssuingDistributionPoint) (b : Bool) → HasList crl list → IsTrue b ↔ holds list → IsTrue b ↔ OfList crl holds
  by_list list b has same = ((λ is. (list, has, same.0 is)), (λ (other, is, so). same.1 (subst holds (one_list crl other list is has) so)))

  pub no_list : ((list : Option IssuingDistributionPoint) → HasList crl list → ⊥) → IsTrue false ↔ OfList crl holds
  no_list none = never (λ (list, is, so). none list is)

-- ---- the reasons that are covered

module _ (certificate : Certificate) (crl : Crl) (list : Option IssuingDistributionPoint) (reasons : Reasons) (covers : Covers certificate crl list reasons) where
  -- the test that they add to all
  pub adds_some : (rest all again : Reasons) (b : Bool) → all ≡ all_reasons → again ≡ all_reasons → rest ≡ minus all reasons → b ≡ not (reasons_eq.ghosts.eq rest again)
      → IsTrue b ↔ OfList crl (λ l. (r : Reasons) × Covers certificate crl l r × AddsTo all_reasons r)
  adds_some rest all again b is_all is_again is test =
      let apart : IsTrue b ↔ (rest ≡ again → ⊥) = subst (λ t. IsTrue t ↔ (rest ≡ again → ⊥)) (sym test) (differ (reasons_eq.ghosts.eq rest again) (exact_reasons rest again)) in
      let left : rest ≡ minus all_reasons reasons = is ∙ ap (λ (l : Reasons). minus l reasons) is_all in (
        (λ so. (list, covers.has_list, (reasons, covers, λ same. apart.0 so (left ∙ same ∙ sym is_again)))),
        (λ (other, has, (r, of_other, adds)). apart.1 (λ same. adds (ap (minus all_reasons) (one_cover certificate crl other list r reasons of_other covers) ∙ sym left ∙ same ∙ is_again))),
      )

-- ---- signers that may be none

module _ (lent : AnchorRef) (b : Bool) (tests : IsTrue b ↔ ((anchor : Anchor) × LendsAnchor lent anchor)) where
  module _ (accepts : Accepting) (bytes : List ℕ) (crl : Crl) where
    pub no_signature : (signer : Option Anchor) → b ≡ false → LendsSigner lent signer → IsTrue false ↔ IsSigned accepts signer bytes crl
    no_signature None not lends = never (λ signed. signed)
    no_signature (Some anchor) not lends = absurd (true≢false (sym (tests.1 (anchor, lends)) ∙ not))

    pub some_signature : (signer : Option Anchor) (same : Bool) → b ≡ true → LendsSigner lent signer
        → ((anchor : Anchor) → LendsAnchor lent anchor → IsTrue same ↔ IsSignedBy accepts anchor bytes crl) → IsTrue same ↔ IsSigned accepts signer bytes crl
    some_signature None same is lends signed = let found = tests.0 is in absurd (lends found.0 found.1)
    some_signature (Some anchor) same is lends signed = signed anchor lends

  -- none has the key of none
  pub no_key : (signer other : Option Anchor) → b ≡ false → LendsSigner lent signer → HaveOneKey signer other → ⊥
  no_key None other not lends one = one
  no_key (Some anchor) other not lends one = true≢false (sym (tests.1 (anchor, lends)) ∙ not)

  pub some_anchor : (signer : Option Anchor) → b ≡ true → LendsSigner lent signer → (anchor : Anchor) × (signer ≡ Some anchor)
  some_anchor None is lends = let found = tests.0 is in absurd (lends found.0 found.1)
  some_anchor (Some anchor) is lends = (anchor, refl)

-- ---- one after the other

module _ (met : CrlFault → Type 0) where
  pub first_unmet : (among : List CrlFault) (i : ℕ) (d : CrlFault) → i < length among → All met (take i among) → (met (get_or among i d) → ⊥) → IsFirst among (λ f. met f → ⊥) (get_or among i d)
  first_unmet among i d less early not_so = record {
    earlier = take i among;
    later = drop (suc i) among;
    order = sym (take-append-drop i among) ∙ ap (λ rest. take i among ++ rest) (drop-cons among i d less);
    has = not_so;
    none_earlier = λ k e within unmet. unmet (early k e within);
  }

  pub every : All met faults → (fault : CrlFault) → met fault
  every all NotYetValid = all 0 NotYetValid (omega arith)
  every all Expired = all 1 NotYetValid (omega arith)
  every all Critical = all 2 NotYetValid (omega arith)
  every all Algorithm = all 3 NotYetValid (omega arith)
  every all Delta = all 4 NotYetValid (omega arith)
  every all IssuingPoint = all 5 NotYetValid (omega arith)
  every all Issuer = all 6 NotYetValid (omega arith)
  every all Scope = all 7 NotYetValid (omega arith)
  every all Point = all 8 NotYetValid (omega arith)
  every all Signer = all 9 NotYetValid (omega arith)
  every all Signature = all 10 NotYetValid (omega arith)
  every all Entry = all 11 NotYetValid (omega arith)
  every all Replaced = all 12 NotYetValid (omega arith)
