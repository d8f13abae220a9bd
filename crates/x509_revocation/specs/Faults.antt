-- Why a CRL says nothing of a certificate (RFC 5280 5, 6.3.3).
use Rattle.std.specs.Prelude.{◌≡◌, ◌≤◌, ◌⊎◌, List, [], ◌∷◌, Option, Some, None}
use Rattle.std.specs.List.{All}
use Rattle.x509_base.specs.CivilTime.{unix_seconds}
use Rattle.x509_ext.specs.Identifiers.{id_ce}
use Rattle.x509_ext.specs.LookUp.{with_oid}
use Rattle.x509_ext.specs.declared.pkix.distribution_point.DistributionPoint.{DistributionPoint}
use Rattle.x509_ext.specs.declared.pkix.issuing_distribution_point.IssuingDistributionPoint.{IssuingDistributionPoint}
use Rattle.x509_ext.specs.declared.pkix.reasons.Reasons.{Reasons}
use Rattle.x509_path.specs.Path.{IsFirst}
use Rattle.x509_revocation.specs.Crls as crls
use Rattle.x509_revocation.specs.Crls.{HasList, crl_extensions, entries_of, this_second}
use Rattle.x509_revocation.specs.Entries.{IsUsable}
use Rattle.x509_revocation.specs.Points.{HasIssuer, HasPoints, Sides, all_reasons, assumed_point, is_indirect}
use Rattle.x509_revocation.specs.Says.{AreInScope, Covers, GivenCrl, Question, Replaces, sides_of}
use Rattle.x509_revocation.specs.Status.{AddsTo}
use Rattle.x509_revocation.specs.declared.fault.CrlFault.{CrlFault}
use Rattle.x509_revocation.specs.declared.fault.CrlFault.TheVariants.{NotYetValid, Expired, Critical, Algorithm, Delta, IssuingPoint, Issuer, Scope, Point, Signer, Signature, Entry, Replaced}

-- one of the points is for CRLs of this issuer
abbrev pub HasAnyIssuer : Sides → List DistributionPoint → Type 0
HasAnyIssuer sides [] = ⊥
HasAnyIssuer sides (point ∷ points) = HasIssuer sides point.crl_issuer ⊎ HasAnyIssuer sides points

-- it has no IssuingDistributionPoint, or one that can be read, and that holds of it
abbrev pub OfList : crls.Crl → (Option IssuingDistributionPoint → Type 0) → Type 0
OfList crl holds = (list : Option IssuingDistributionPoint) × HasList crl list × holds list

-- What is asked of a CRL that stands among these, each under the fault that it has where that doesn't hold.
abbrev pub Meets : Question → List GivenCrl → GivenCrl → CrlFault → Type 0
-- 5.1.2.4, 5.1.2.5, and (a)
Meets question all given NotYetValid = this_second given.crl ≤ unix_seconds question.moment
Meets question all given Expired = crls.IsBeforeNext question.without_next question.moment given.crl.tbs_cert_list.next_update
-- 5.2
Meets question all given Critical = All crls.IsProcessed (crl_extensions given.crl)
-- 5.1.1.2
Meets question all given Algorithm = crls.HasOneAlgorithm given.crl
-- 5.2.4
Meets question all given Delta = with_oid (id_ce 27) (crl_extensions given.crl) ≡ []
-- 5.2.5
Meets question all given IssuingPoint = OfList given.crl (λ list. Unit {0})
-- (b) (1)
Meets question all given Issuer = OfList given.crl (λ list. (points : List DistributionPoint) × HasPoints question.certificate points
    × HasAnyIssuer (sides_of question.certificate given.crl list) (assumed_point question.certificate.tbs_certificate.issuer ∷ points))
-- (b) (2) (ii) to (iv)
Meets question all given Scope = OfList given.crl (AreInScope question.certificate)
-- (b) (2) (i), (d)
Meets question all given Point = OfList given.crl (λ list. (reasons : Reasons) × Covers question.certificate given.crl list reasons × AddsTo all_reasons reasons)
-- (f)
Meets question all given Signer = crls.IsOfSigner given.signer given.crl
-- (g)
Meets question all given Signature = crls.IsSigned question.accepts given.signer given.bytes given.crl
-- 5.3
Meets question all given Entry = OfList given.crl (λ list. All (IsUsable (is_indirect list)) (entries_of given.crl))
-- (a)
Meets question all given Replaced = OfList given.crl (λ list. All (λ other. Replaces question (is_indirect list) other given → ⊥) all)

-- the order in which they are told
abbrev pub faults : List CrlFault
faults = NotYetValid ∷ Expired ∷ Critical ∷ Algorithm ∷ Delta ∷ IssuingPoint ∷ Issuer ∷ Scope ∷ Point ∷ Signer ∷ Signature ∷ Entry ∷ Replaced ∷ []

-- The first fault of the CRL among these. None: it says of one reason or more whether the certificate is revoked.
abbrev pub HasFault : Question → List GivenCrl → GivenCrl → Option CrlFault → Type 0
HasFault question all given None = (fault : CrlFault) → Meets question all given fault
HasFault question all given (Some fault) = IsFirst faults (λ f. Meets question all given f → ⊥) fault
