-- What one CRL says of a certificate, with a delta CRL to it, by the letters of RFC 5280 6.3.3.
use Rattle.std.specs.Prelude.{◌≡◌, ◌≢◌, ◌⊎◌, ℕ, suc, Bool, true, false, List, [], ◌∷◌, Option, Some, None, option_map, if◌then◌else◌}
use Rattle.std.specs.List.{All}
use Rattle.x509_base.specs.CivilTime.{CivilTime}
use Rattle.x509_ext.specs.CrlReason.{crl_reason}
use Rattle.x509_ext.specs.Identifiers.{id_ce}
use Rattle.x509_ext.specs.LookUp.{with_oid}
use Rattle.x509_ext.specs.declared.pkix.crl_reason.CrlReason.{CrlReason}
use Rattle.x509_ext.specs.declared.pkix.crl_reason.CrlReason.TheVariants.{RemoveFromCRL, Unspecified}
use Rattle.x509_ext.specs.declared.pkix.distribution_point.DistributionPoint.{DistributionPoint}
use Rattle.x509_ext.specs.declared.pkix.issuing_distribution_point.IssuingDistributionPoint.{IssuingDistributionPoint}
use Rattle.x509_ext.specs.declared.pkix.reasons.Reasons.{Reasons}
use Rattle.x509_path.specs.Certificates.{Accepting, Certificate, HasPayload, IsCa, extensions_of}
use Rattle.x509_path.specs.declared.anchor.Anchor.{Anchor}
use Rattle.x509_revocation.specs.Crls as crls
use Rattle.x509_revocation.specs.Crls.{Crl, Entry, HasList, crl_extensions, entries_of, entry_extensions}
use Rattle.x509_revocation.specs.Entries.{FindsEntry, IsUsable}
use Rattle.x509_revocation.specs.declared.status.Revocation.{Revocation}
use Rattle.x509_revocation.specs.Points.{Gathers, HasPoints, Sides, assumed_point, is_indirect}

-- what is asked (6.3.1): of which certificate, when, whether a CRL without a next update is in date, whether delta CRLs are used, and what the
-- verifier of signatures answers
pub record Question : Type 0 where
  pub certificate : Certificate
  pub moment : CivilTime
  pub without_next : Bool
  pub use_deltas : Bool
  pub accepts : Accepting

-- a CRL with its bytes, and the name and the key under which it is to be verified, if they are a name and a key: (f) has been done for these
pub record GivenCrl : Type 0 where
  pub crl : Crl
  pub bytes : List ℕ
  pub signer : Option Anchor

-- ---- (b) (2) (ii) to (iv): the certificate is in the scope that the IssuingDistributionPoint states

pub record IsInScope (certificate : Certificate) (point : IssuingDistributionPoint) : Type 0 where
  -- (ii)
  pub user : point.only_contains_user_certs ≡ true → IsCa (extensions_of certificate) → ⊥
  -- (iii)
  pub ca : point.only_contains_ca_certs ≡ true → IsCa (extensions_of certificate)
  -- (iv)
  pub no_attribute : point.only_contains_attribute_certs ≡ false

abbrev pub AreInScope : Certificate → Option IssuingDistributionPoint → Type 0
AreInScope certificate None = Unit {0}
AreInScope certificate (Some point) = IsInScope certificate point

-- ---- (b), (d): the reasons that the CRL covers, of the certificate's distribution points and of the one that is assumed

abbrev pub sides_of : Certificate → Crl → Option IssuingDistributionPoint → Sides
sides_of certificate crl list = record { issuer = certificate.tbs_certificate.issuer; own = crl.tbs_cert_list.issuer; list = list }

pub record Covers (certificate : Certificate) (crl : Crl) (list : Option IssuingDistributionPoint) (reasons : Reasons) : Type 0 where
  pub has_list : HasList crl list
  pub in_scope : AreInScope certificate list
  pub points : List DistributionPoint
  pub has_points : HasPoints certificate points
  pub gathers : Gathers (sides_of certificate crl list) (assumed_point certificate.tbs_certificate.issuer ∷ points) reasons

-- ---- whether it is used

pub record IsReady (without_next : Bool) (moment : CivilTime) (crl : Crl) : Type 0 where
  -- (a)
  pub in_date : crls.IsInDate without_next moment crl
  -- 5.2
  pub processed : All crls.IsProcessed (crl_extensions crl)
  -- (g), (h)
  pub one_algorithm : crls.HasOneAlgorithm crl

pub record IsComplete (without_next : Bool) (moment : CivilTime) (given : GivenCrl) : Type 0 where
  pub ready : IsReady without_next moment given.crl
  -- it is no delta CRL (5.2.4)
  pub no_indicator : with_oid (id_ce 27) (crl_extensions given.crl) ≡ []
  -- (f): the signer's name is that of its issuer
  pub of_signer : crls.IsOfSigner given.signer given.crl

-- ---- (a): the current one of several complete CRLs

-- A newer complete CRL for the same scope, which could be used, and is verified by the same key, takes the place of the CRL (5.2.3).
pub record Replaces (question : Question) (indirect : Bool) (newer : GivenCrl) (older : GivenCrl) : Type 0 where
  pub scope : crls.HaveOneScope older.crl newer.crl
  pub one_key : crls.HaveOneKey older.signer newer.signer
  pub is_older : crls.IsOlder older.crl newer.crl
  pub complete : IsComplete question.without_next question.moment newer
  pub signed : crls.IsSigned question.accepts newer.signer newer.bytes newer.crl
  pub entries_usable : All (IsUsable indirect) (entries_of newer.crl)

-- ---- (a), (c), (h): the delta CRL to a complete one

pub record Fits (question : Question) (complete : GivenCrl) (delta : GivenCrl) : Type 0 where
  pub ready : IsReady question.without_next question.moment delta.crl
  -- (c) (1), (c) (2)
  pub scope : crls.HaveOneScope complete.crl delta.crl
  -- (c) (3): the AuthorityKeyIdentifier
  pub authority_key : crls.HaveSame (id_ce 35) (crl_extensions complete.crl) (crl_extensions delta.crl)
  -- 5.2.4
  pub in_order : crls.AreInOrder complete.crl delta.crl
  -- (h): by the key of the complete one
  pub signed : crls.IsSigned question.accepts complete.signer delta.bytes delta.crl

-- it fits, and its entries can be used (5.3)
abbrev pub IsDeltaTo : Question → Bool → GivenCrl → GivenCrl → Type 0
IsDeltaTo question indirect complete delta = Fits question complete delta × All (IsUsable indirect) (entries_of delta.crl)

-- a delta CRL to it than which none to it among these is newer (a), in whatever order they stand
abbrev pub IsCurrentDelta : Question → Bool → GivenCrl → List GivenCrl → GivenCrl → Type 0
IsCurrentDelta question indirect complete all delta =
    IsDeltaTo question indirect complete delta × All (λ other. IsDeltaTo question indirect complete other → crls.IsOlder delta.crl other.crl → ⊥) all

-- the first of them from that place on, with its place; None exactly where there is none
abbrev pub FindsDelta : Question → Bool → GivenCrl → List GivenCrl → ℕ → List GivenCrl → Option (ℕ × GivenCrl) → Type 0
FindsDelta question indirect complete all place [] found = found ≡ None
FindsDelta question indirect complete all place (given ∷ others) found =
    (IsCurrentDelta question indirect complete all given × (found ≡ Some (place, given)))
    ⊎ ((IsCurrentDelta question indirect complete all given → ⊥) × FindsDelta question indirect complete all (suc place) others found)

-- those among which it is: none where no delta CRLs are used (6.3.1 (b))
abbrev pub deltas_among : Question → List GivenCrl → List GivenCrl
deltas_among question given = if question.use_deltas then given else []

-- ---- (i), (j): the entry of the certificate, with the place of the CRL that it is in

abbrev pub FindsAt : Certificate → ℕ → Crl → Option (ℕ × Entry) → Type 0
FindsAt certificate place crl found = (entry : Option Entry) × FindsEntry certificate crl entry × (found ≡ option_map (λ e. (place, e)) entry)

-- that in the delta CRL; where it has none, that in the complete one
abbrev pub FindsIn : Certificate → ℕ → Crl → Option (ℕ × GivenCrl) → Option (ℕ × Entry) → Type 0
FindsIn certificate place crl None found = FindsAt certificate place crl found
FindsIn certificate place crl (Some delta) found =
    ((entry : Entry) × FindsEntry certificate delta.1.crl (Some entry) × (found ≡ Some (delta.0, entry)))
    ⊎ (FindsEntry certificate delta.1.crl None × FindsAt certificate place crl found)

-- the same in the delta CRL to it that is among these, if there is one
abbrev pub FindsWith : Question → Bool → List GivenCrl → ℕ → GivenCrl → Option (ℕ × Entry) → Type 0
FindsWith question indirect all place given found =
    (delta : Option (ℕ × GivenCrl)) × FindsDelta question indirect given (deltas_among question all) 0 (deltas_among question all) delta
    × FindsIn question.certificate place given.crl delta found

-- ---- (i) to (k): what the entry tells

-- unspecified where the entry gives no reason that can be read (5.3.1)
abbrev pub HasReason : Entry → CrlReason → Type 0
HasReason entry reason =
    HasPayload crl_reason (id_ce 21) (entry_extensions entry) reason
    ⊎ (((given : CrlReason) → HasPayload crl_reason (id_ce 21) (entry_extensions entry) given → ⊥) × (reason ≡ Unspecified))

-- None: the certificate isn't revoked, since it has no entry, or it is removed (k)
abbrev pub Tells : Option (ℕ × Entry) → Option Revocation → Type 0
Tells None revoked = revoked ≡ None
Tells (Some found) None = HasReason found.1 RemoveFromCRL
Tells (Some found) (Some revoked) =
    HasReason found.1 revoked.reason × (revoked.reason ≢ RemoveFromCRL) × (revoked.date ≡ found.1.revocation_date) × (revoked.crl ≡ found.0)

-- ---- what the CRL at a place says, among others: of which reasons, and whether the certificate is revoked

pub record Says (question : Question) (all : List GivenCrl) (place : ℕ) (given : GivenCrl) (reasons : Reasons) (revoked : Option Revocation) : Type 0 where
  pub complete : IsComplete question.without_next question.moment given
  pub list : Option IssuingDistributionPoint
  pub covers : Covers question.certificate given.crl list reasons
  -- (g)
  pub signed : crls.IsSigned question.accepts given.signer given.bytes given.crl
  -- 5.3
  pub entries_usable : All (IsUsable (is_indirect list)) (entries_of given.crl)
  -- (a)
  pub current : All (λ other. Replaces question (is_indirect list) other given → ⊥) all
  pub found : Option (ℕ × Entry)
  pub finds : FindsWith question (is_indirect list) all place given found
  pub tells : Tells found revoked
