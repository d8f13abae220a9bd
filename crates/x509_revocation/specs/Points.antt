-- Distribution points: which a certificate has, and which of them a CRL is that of (RFC 5280 4.2.1.13, 5.2.5, 6.3.3).
use Rattle.std.specs.Int.RustNames.{bit_and, bit_or}
use Rattle.std.specs.Prelude.{◌≡◌, ◌⊎◌, ◌++◌, Bool, true, false, List, [], ◌∷◌, Option, Some, None}
use Rattle.x509_ext.specs.DistributionPoint.{crl_distribution_points}
use Rattle.x509_ext.specs.Identifiers.{id_ce}
use Rattle.x509_ext.specs.declared.pkix.distribution_point.DistributionPoint.{DistributionPoint}
use Rattle.x509_ext.specs.declared.pkix.distribution_points.CrlDistributionPoints.{CrlDistributionPoints}
use Rattle.x509_ext.specs.declared.pkix.issuing_distribution_point.IssuingDistributionPoint.{IssuingDistributionPoint}
use Rattle.x509_ext.specs.declared.pkix.name.distribution_point_name.DistributionPointName.{DistributionPointName}
use Rattle.x509_ext.specs.declared.pkix.name.distribution_point_name.DistributionPointName.TheVariants.{FullName, NameRelativeToCRLIssuer}
use Rattle.x509_ext.specs.declared.pkix.name.general_name.GeneralName.{GeneralName}
use Rattle.x509_ext.specs.declared.pkix.name.general_name.GeneralName.TheVariants.{DirectoryName}
use Rattle.x509_ext.specs.declared.pkix.reasons.Reasons.{Reasons}
use Rattle.x509_match.specs.Matching.{NamesMatch}
use Rattle.x509_path.specs.Certificates.{Certificate, HasPayload, extensions_of}
use Rattle.x509_revocation.specs.Names.{Name, HasMatch, HaveMatch, directory_name}

-- ---- the points of a certificate

-- those of its CRLDistributionPoints; none where it has none that can be read
abbrev pub HasPoints : Certificate → List DistributionPoint → Type 0
HasPoints certificate points =
    HasPayload crl_distribution_points (id_ce 31) (extensions_of certificate) (record { 0 = points })
    ⊎ (((read : CrlDistributionPoints) → HasPayload crl_distribution_points (id_ce 31) (extensions_of certificate) read → ⊥) × (points ≡ []))

-- for CRLs of the issuer that no point speaks of (6.3.3, last paragraph)
abbrev pub assumed_point : Name → DistributionPoint
assumed_point issuer = record { distribution_point = Some (FullName (DirectoryName issuer ∷ [])); reasons = None; crl_issuer = None }

-- ---- the names of a point

-- A name relative to the issuer of a CRL is made whole with the issuer's name (4.2.1.13, 5.2.5).
abbrev pub whole_names : Option Name → DistributionPointName → List GeneralName
whole_names issuer (FullName names) = names
whole_names (Some issuer) (NameRelativeToCRLIssuer rdn) = DirectoryName (issuer ++ rdn ∷ []) ∷ []
whole_names None (NameRelativeToCRLIssuer rdn) = []

-- the one directory name that a cRLIssuer holds
abbrev pub single_name : List GeneralName → Option Name
single_name (name ∷ []) = directory_name name
single_name _ = None

-- that of its cRLIssuer, and where it has none that of the certificate
abbrev pub point_issuer : Name → Option (List GeneralName) → Option Name
point_issuer issuer None = Some issuer
point_issuer issuer (Some names) = single_name names

-- one of these names matches one of the point's; where it has none, one in its cRLIssuer (b) (2) (i)
abbrev pub MatchPoint : Name → List GeneralName → Option DistributionPointName → Option (List GeneralName) → Type 0
MatchPoint issuer own (Some place) crl_issuer = HaveMatch own (whole_names (point_issuer issuer crl_issuer) place)
MatchPoint issuer own None (Some names) = HaveMatch own names
MatchPoint issuer own None None = ⊥

-- ---- (b) (1), (b) (2) (i): a CRL is that of the point

abbrev pub is_indirect : Option IssuingDistributionPoint → Bool
is_indirect None = false
is_indirect (Some list) = list.indirect_crl

-- the certificate's issuer, the CRL's, and the CRL's IssuingDistributionPoint
pub record Sides : Type 0 where
  pub issuer : Name
  pub own : Name
  pub list : Option IssuingDistributionPoint

-- (b) (1): One of the names in its cRLIssuer matches that of the CRL's issuer. The CRL is an indirect one then, unless it is the certificate's issuer.
abbrev pub HasIssuer : Sides → Option (List GeneralName) → Type 0
HasIssuer sides None = NamesMatch sides.own sides.issuer
HasIssuer sides (Some names) = ((is_indirect sides.list ≡ true) ⊎ NamesMatch sides.own sides.issuer) × HasMatch (DirectoryName sides.own) names

-- (b) (2) (i)
abbrev pub HasPlace : Sides → DistributionPoint → Option DistributionPointName → Type 0
HasPlace sides point None = Unit {0}
HasPlace sides point (Some place) = MatchPoint sides.issuer (whole_names (Some sides.own) place) point.distribution_point point.crl_issuer

abbrev pub place_of : Option IssuingDistributionPoint → Option DistributionPointName
place_of None = None
place_of (Some list) = list.distribution_point

pub record IsOfPoint (sides : Sides) (point : DistributionPoint) : Type 0 where
  pub issuer : HasIssuer sides point.crl_issuer
  pub place : HasPlace sides point (place_of sides.list)

-- ---- (d), (l): the reasons

-- keyCompromise to aACompromise, the bits 1 to 8
abbrev pub all_reasons : Reasons
all_reasons = record { 0 = 510 }

-- those of a point and those in onlySomeReasons
abbrev pub interim_reasons : Option Reasons → Option Reasons → Reasons
interim_reasons (Some point) (Some some) = record { 0 = bit_and point.0 some.0 }
interim_reasons None (Some some) = some
interim_reasons (Some point) None = point
interim_reasons None None = all_reasons

abbrev pub some_reasons : Option IssuingDistributionPoint → Option Reasons
some_reasons None = None
some_reasons (Some list) = list.only_some_reasons

-- for the points together that the CRL is that of
abbrev pub Gathers : Sides → List DistributionPoint → Reasons → Type 0
Gathers sides [] reasons = reasons ≡ record { 0 = 0 }
Gathers sides (point ∷ points) reasons =
    ((IsOfPoint sides point → ⊥) × Gathers sides points reasons)
    ⊎ (IsOfPoint sides point × ((others : Reasons) × Gathers sides points others × (reasons ≡ record { 0 = bit_or (interim_reasons point.reasons (some_reasons sides.list)).0 others.0 })))
