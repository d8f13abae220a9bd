-- A CRL with a fault says nothing, and one without says something.
use Rattle.std.proofs.Common.{◌≡◌, ◌⊎◌, inl, inr, ℕ, List, [], ◌∷◌, Option, Some, None, refl, ap, subst, arith}
use Rattle.std.specs.List.{All}
use Rattle.x509_ext.specs.declared.pkix.distribution_point.DistributionPoint.{DistributionPoint}
use Rattle.x509_ext.specs.declared.pkix.issuing_distribution_point.IssuingDistributionPoint.{IssuingDistributionPoint}
use Rattle.x509_ext.specs.declared.pkix.reasons.Reasons.{Reasons}
use Rattle.x509_path.proofs.Firsts.{one_place}
use Rattle.x509_revocation.specs.Crls.{Entry, HasList, entries_of}
use Rattle.x509_revocation.specs.Entries.{IsUsable}
use Rattle.x509_revocation.specs.Faults.{HasAnyIssuer, HasFault, Meets, faults}
use Rattle.x509_revocation.specs.Points.{Gathers, Sides, all_reasons, assumed_point, is_indirect}
use Rattle.x509_revocation.specs.Says.{Covers, FindsWith, GivenCrl, Question, Replaces, Says, Tells, sides_of}
use Rattle.x509_revocation.specs.Status.{AddsTo}
use Rattle.x509_revocation.specs.declared.fault.CrlFault.{CrlFault}
use Rattle.x509_revocation.specs.declared.fault.CrlFault.TheVariants as fault
use Rattle.x509_revocation.specs.declared.status.Revocation.{Revocation}
use Rattle.x509_revocation.proofs.OneCover.{one_list}

-- where a reason is covered, a point is for CRLs of this issuer
any_issuer : (sides : Sides) (points : List DistributionPoint) (reasons : Reasons) → Gathers sides points reasons → (reasons ≡ record { 0 = 0 }) ⊎ HasAnyIssuer sides points
any_issuer sides [] reasons h = inl h
any_issuer sides (point ∷ points) reasons (inl h) = elim (any_issuer sides points reasons h.1) [ inl none ↦ inl none | inr some ↦ inr (inr some) ]
any_issuer sides (point ∷ points) reasons (inr h) = inr (inl h.0.issuer)

added : (sides : Sides) (points : List DistributionPoint) (reasons : Reasons) → Gathers sides points reasons → AddsTo all_reasons reasons → HasAnyIssuer sides points
added sides points reasons gathers adds = elim (any_issuer sides points reasons gathers) [ inl none ↦ absurd (subst (AddsTo all_reasons) none adds refl) | inr some ↦ some ]

module _ (question : Question) (all : List GivenCrl) (given : GivenCrl) where
  module _ (place : ℕ) (reasons : Reasons) (revoked : Option Revocation) where
    says_meets : Says question all place given reasons revoked → AddsTo all_reasons reasons → (f : CrlFault) → Meets question all given f
    says_meets says adds fault.NotYetValid = says.complete.ready.in_date.0
    says_meets says adds fault.Expired = says.complete.ready.in_date.1
    says_meets says adds fault.Critical = says.complete.ready.processed
    says_meets says adds fault.Algorithm = says.complete.ready.one_algorithm
    says_meets says adds fault.Delta = says.complete.no_indicator
    says_meets says adds fault.IssuingPoint = (says.list, says.covers.has_list, tt)
    says_meets says adds fault.Issuer = (
      says.list,
      says.covers.has_list,
      (
        says.covers.points,
        says.covers.has_points,
        added (sides_of question.certificate given.crl says.list) (assumed_point question.certificate.tbs_certificate.issuer ∷ says.covers.points) reasons says.covers.gathers adds,
      ),
    )
    says_meets says adds fault.Scope = (says.list, says.covers.has_list, says.covers.in_scope)
    says_meets says adds fault.Point = (says.list, says.covers.has_list, (reasons, says.covers, adds))
    says_meets says adds fault.Signer = says.complete.of_signer
    says_meets says adds fault.Signature = says.signed
    says_meets says adds fault.Entry = (says.list, says.covers.has_list, says.entries_usable)
    says_meets says adds fault.Replaced = (says.list, says.covers.has_list, says.current)

  pub silent : (f : CrlFault) (place : ℕ) (reasons : Reasons) (revoked : Option Revocation) → HasFault question all given (Some f) → Says question all place given reasons revoked → AddsTo all_reasons reasons → ⊥
  silent f place reasons revoked h says adds = h.has (says_meets place reasons revoked says adds f)

  pub speaks : (place : ℕ) (list : Option IssuingDistributionPoint) (found : Option (ℕ × Entry)) (revoked : Option Revocation) → HasFault question all given None → HasList given.crl list
      → FindsWith question (is_indirect list) all place given found → Tells found revoked → (reasons : Reasons) × Says question all place given reasons revoked × AddsTo all_reasons reasons
  speaks place list found revoked meets has finds tells =
      let (other, is, (reasons, covers, adds)) = meets fault.Point in
      let (near, of_entries, usable) = meets fault.Entry in
      let (far, of_others, current) = meets fault.Replaced in (
        reasons,
        record {
          complete = record {
            ready = record { in_date = (meets fault.NotYetValid, meets fault.Expired); processed = meets fault.Critical; one_algorithm = meets fault.Algorithm };
            no_indicator = meets fault.Delta;
            of_signer = meets fault.Signer;
          };
          list = list;
          covers = subst (λ l. Covers question.certificate given.crl l reasons) (one_list given.crl other list is has) covers;
          signed = meets fault.Signature;
          entries_usable = subst (λ l. All (IsUsable (is_indirect l)) (entries_of given.crl)) (one_list given.crl near list of_entries has) usable;
          current = subst (λ l. All (λ newer. Replaces question (is_indirect l) newer given → ⊥) all) (one_list given.crl far list of_others has) current;
          found = found;
          finds = finds;
          tells = tells;
        },
        adds,
      )

  pub one_fault : (a b : Option CrlFault) → HasFault question all given a → HasFault question all given b → a ≡ b
  one_fault None None h k = refl
  one_fault None (Some f) h k = absurd (k.has (h f))
  one_fault (Some f) None h k = absurd (h.has (k f))
  one_fault (Some f) (Some g) h k = ap (λ x. Some x) (one_place (λ place r. Meets question all given r → ⊥) faults 0 0 f g h k (λ n less. absurd (omega arith)) (λ n less. absurd (omega arith))).1
