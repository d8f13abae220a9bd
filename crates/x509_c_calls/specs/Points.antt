-- Where CRLs are found, and of what certificates they speak, by their places (RFC 5280 4.2.1.13, 5.2.5).
use Rattle.std.specs.Prelude.{◌≡◌, ℕ, Bool, List, ◌++◌, Option, Some, None}
use Rattle.x509_c_calls.specs.PayloadExtensions.{flag}
use Rattle.x509_c_calls.specs.Optional.{IsNowhere, IsPerhapsAt, IsNumber}
use Rattle.x509_c_calls.specs.declared.payloads.point.DistributionPointView.{DistributionPointView}
use Rattle.x509_c_calls.specs.declared.payloads.point.IssuingDistributionPointView.{IssuingDistributionPointView}
use Rattle.x509_c_calls.specs.Place.{IsAt}
use Rattle.x509_c_calls.specs.declared.place.span.Span.{Span}
use Rattle.x509_der.specs.DefaultValues.{boolean_default}
use Rattle.x509_der.specs.Frames.{explicit, implicit, optional_octets, default_octets}
use Rattle.x509_der.specs.Boolean.{boolean}
use Rattle.x509_der.specs.Form.{spelling}
use Rattle.x509_name.specs.Names.{relative_distinguished_name}
use Rattle.x509_ext.specs.DistributionPointName.{distribution_point_name}
use Rattle.x509_ext.specs.GeneralName.{general_names}
use Rattle.x509_ext.specs.declared.pkix.name.distribution_point_name.DistributionPointName.{DistributionPointName}
use Rattle.x509_ext.specs.declared.pkix.name.distribution_point_name.DistributionPointName.TheVariants.{FullName, NameRelativeToCRLIssuer}
use Rattle.x509_ext.specs.declared.pkix.distribution_point.DistributionPoint.{DistributionPoint}
use Rattle.x509_ext.specs.declared.pkix.issuing_distribution_point.IssuingDistributionPoint.{IssuingDistributionPoint}
use Rattle.x509_ext.specs.declared.pkix.reasons.Reasons.{Reasons}
use Rattle.x509_ext.specs.Reasons.{reasons}

-- the name of a point as it is written
abbrev pub name_text : Option DistributionPointName → List ℕ
name_text name = optional_octets (spelling (explicit 0 distribution_point_name)) name

-- where the full names stand, and the name relative to the issuer, with those octets behind them: of one of the two, or of both, nowhere
abbrev pub IsPointName : Option DistributionPointName → List ℕ → List ℕ → Span → Span → Type 0
IsPointName None behind bytes full relative = IsNowhere full × IsNowhere relative
IsPointName (Some (FullName names)) behind bytes full relative = IsAt (spelling (implicit 0 general_names) names) behind bytes full × IsNowhere relative
IsPointName (Some (NameRelativeToCRLIssuer rdn)) behind bytes full relative = IsNowhere full × IsAt (spelling (implicit 1 relative_distinguished_name) rdn) behind bytes relative

-- reasons as a number
abbrev pub bits_of : Option Reasons → Option ℕ
bits_of None = None
bits_of (Some set) = Some set.0

-- what stands behind the name of a point, and behind its reasons
abbrev pub issuer_text : DistributionPoint → List ℕ
issuer_text point = optional_octets (spelling (implicit 2 general_names)) point.crl_issuer

abbrev pub reasons_text : DistributionPoint → List ℕ
reasons_text point = optional_octets (spelling (implicit 1 reasons)) point.reasons

-- what the view says of a point in these bytes, behind which those others stand
pub record IsPoint (bytes : List ℕ) (point : DistributionPoint) (behind : List ℕ) (view : DistributionPointView) : Type 0 where
  pub name : IsPointName point.distribution_point (reasons_text point ++ (issuer_text point ++ behind)) bytes view.full_name view.relative_name
  pub reasons : IsNumber (bits_of point.reasons) view.has_reasons view.reasons
  pub crl_issuer : IsPerhapsAt (spelling (implicit 2 general_names)) point.crl_issuer behind bytes view.crl_issuer

-- [n]BOOLEAN=FALSE, as it is written
abbrev pub said_text : ℕ → Bool → List ℕ
said_text n is_said = default_octets boolean_default (spelling (implicit n boolean)) is_said

-- what stands behind the name of an issuing point: of what certificates the CRL speaks
abbrev pub scope_text : IssuingDistributionPoint → List ℕ
scope_text point =
    (said_text 1 point.only_contains_user_certs ++ said_text 2 point.only_contains_ca_certs)
    ++ (optional_octets (spelling (implicit 3 reasons)) point.only_some_reasons ++ (said_text 4 point.indirect_crl ++ said_text 5 point.only_contains_attribute_certs))

-- the same of an issuing point
pub record IsIssuingPoint (bytes : List ℕ) (point : IssuingDistributionPoint) (behind : List ℕ) (view : IssuingDistributionPointView) : Type 0 where
  pub name : IsPointName point.distribution_point (scope_text point ++ behind) bytes view.full_name view.relative_name
  pub only_contains_user_certs : view.only_contains_user_certs ≡ flag point.only_contains_user_certs
  pub only_contains_ca_certs : view.only_contains_ca_certs ≡ flag point.only_contains_ca_certs
  pub only_some_reasons : IsNumber (bits_of point.only_some_reasons) view.has_only_some_reasons view.only_some_reasons
  pub indirect_crl : view.indirect_crl ≡ flag point.indirect_crl
  pub only_contains_attribute_certs : view.only_contains_attribute_certs ≡ flag point.only_contains_attribute_certs
