-- Where CRLs are found, and of what certificates they speak, encoded of what a caller says (RFC 5280 4.2.1.13, 5.2.5).
use Rattle.std.specs.Prelude.{◌≡◌, ◌≤◌, ◌+◌, ◌⊎◌, ℕ, List, [], ◌∷◌, Option, Some, None, Result, Ok, Err, IfSome}
use Rattle.x509_c_calls.specs.Calls.{Encodes}
use Rattle.x509_c_calls.specs.Described.{RefusesPerhaps}
use Rattle.x509_c_calls.specs.Input.{RefusesEach, SpellEach, unless_empty}
use Rattle.x509_c_calls.specs.Optional.{IsNumber}
use Rattle.x509_c_calls.specs.PayloadExtensions.{flag}
use Rattle.x509_c_calls.specs.Points.{bits_of}
use Rattle.x509_c_calls.specs.declared.payloads.point.IssuingDistributionPointView.{IssuingDistributionPointView}
use Rattle.x509_der.specs.Form.{Form, Spells}
use Rattle.x509_der.specs.Writing.{Writing, writes}
use Rattle.x509_der.specs.declared.error.ErrorKind.{ErrorKind}
use Rattle.x509_der.specs.declared.error.ErrorKind.TheVariants.{Value}
use Rattle.x509_ext.specs.GeneralName.{general_name}
use Rattle.x509_ext.specs.Reasons.{reasons}
use Rattle.x509_ext.specs.declared.pkix.distribution_point.DistributionPoint.{DistributionPoint}
use Rattle.x509_ext.specs.declared.pkix.issuing_distribution_point.IssuingDistributionPoint.{IssuingDistributionPoint}
use Rattle.x509_ext.specs.declared.pkix.name.distribution_point_name.DistributionPointName.{DistributionPointName}
use Rattle.x509_ext.specs.declared.pkix.name.distribution_point_name.DistributionPointName.TheVariants.{FullName, NameRelativeToCRLIssuer}
use Rattle.x509_ext.specs.declared.pkix.name.general_name.GeneralName.{GeneralName}
use Rattle.x509_ext.specs.declared.pkix.reasons.Reasons.{Reasons}
use Rattle.x509_name.specs.Names.{relative_distinguished_name}
use Rattle.x509_name.specs.declared.attr.type_and_value.AttributeTypeAndValue.{AttributeTypeAndValue}

-- the encoding of the value that is described, as values of its type are written; or why there is none
abbrev pub EncodesWritten : {X : Type 0} → Form X → Writing X → (X → Type 0) → (ErrorKind → Type 0) → Result (List ℕ) ErrorKind → Type 0
EncodesWritten {X} form writing described refuses (Ok bytes) = (value : X) × described value × Encodes form (writes writing value) (Ok bytes)
EncodesWritten {X} form writing described refuses (Err e) = refuses e ⊎ ((value : X) × described value × Encodes form (writes writing value) (Err e))

-- ---- parts

-- The name of a point: its full names, whose encodings the bytes are, one after the other; or its name relative to the issuer of the CRL, by its encoding; or
-- none, where neither has a byte.
abbrev pub IsPointNameOf : List ℕ → List ℕ → Option DistributionPointName → Type 0
IsPointNameOf [] [] name = name ≡ None
IsPointNameOf (byte ∷ bytes) [] name = (names : List GeneralName) × SpellEach general_name names (byte ∷ bytes) × (name ≡ Some (FullName names))
IsPointNameOf [] (byte ∷ bytes) name =
    (rdn : List AttributeTypeAndValue) × Spells relative_distinguished_name rdn (byte ∷ bytes) × (name ≡ Some (NameRelativeToCRLIssuer rdn))
IsPointNameOf (byte ∷ bytes) (other ∷ others) name = ⊥

-- there is none: an encoding is refused, or there are both
abbrev pub RefusesPointName : List ℕ → List ℕ → ErrorKind → Type 0
RefusesPointName full relative e =
    RefusesEach general_name (λ e. ⊥) full e
    ⊎ (RefusesPerhaps relative_distinguished_name (λ e. ⊥) relative e
    ⊎ ((e ≡ Value) × (full ≡ [] → ⊥) × (relative ≡ [] → ⊥)))

-- the reasons that a number says, behind a 1, or none behind a 0; each of them has a name
abbrev pub AreReasons : ℕ → ℕ → Option Reasons → Type 0
AreReasons is_there number said = IsNumber (bits_of said) is_there number × IfSome said reasons.good

-- the names whose encodings the bytes are, unless there are none
abbrev pub AreIssuerNames : List ℕ → Option (List GeneralName) → Type 0
AreIssuerNames bytes names = (given : List GeneralName) × SpellEach general_name given bytes × (names ≡ unless_empty given)

-- ---- a distribution point

-- that of these names, reasons and names of the issuer of the CRL, and not of reasons alone (RFC 5280 4.2.1.13)
pub record IsPointOf (full relative : List ℕ) (has_reasons number : ℕ) (issuer : List ℕ) (point : DistributionPoint) : Type 0 where
  pub name_is : IsPointNameOf full relative point.distribution_point
  pub reasons_are : AreReasons has_reasons number point.reasons
  pub issuer_is : AreIssuerNames issuer point.crl_issuer
  pub some : full ≡ [] → relative ≡ [] → issuer ≡ [] → ⊥

abbrev pub RefusesPoint : List ℕ → List ℕ → ℕ → ℕ → List ℕ → ErrorKind → Type 0
RefusesPoint full relative has_reasons number issuer e =
    RefusesPointName full relative e
    ⊎ (((e ≡ Value) × ((said : Option Reasons) → AreReasons has_reasons number said → ⊥))
    ⊎ (RefusesEach general_name (λ e. ⊥) issuer e
    ⊎ ((e ≡ Value) × (full ≡ []) × (relative ≡ []) × (issuer ≡ []))))

-- ---- an issuing distribution point

-- all is left out
abbrev pub SaysNothing : IssuingDistributionPointView → List ℕ → List ℕ → Type 0
SaysNothing view full relative =
    (view.only_contains_user_certs + view.only_contains_ca_certs + view.only_contains_attribute_certs + view.has_only_some_reasons + view.indirect_crl ≡ 0)
    × (full ≡ []) × (relative ≡ [])

-- Of these names, and of what the view says beside them: something is said, and of the three kinds of certificates one alone at most (RFC 5280 5.2.5).
pub record IsIssuingPointOf (view : IssuingDistributionPointView) (full relative : List ℕ) (point : IssuingDistributionPoint) : Type 0 where
  pub name_is : IsPointNameOf full relative point.distribution_point
  pub user_certs : view.only_contains_user_certs ≡ flag point.only_contains_user_certs
  pub ca_certs : view.only_contains_ca_certs ≡ flag point.only_contains_ca_certs
  pub reasons_are : AreReasons view.has_only_some_reasons view.only_some_reasons point.only_some_reasons
  pub indirect : view.indirect_crl ≡ flag point.indirect_crl
  pub attribute_certs : view.only_contains_attribute_certs ≡ flag point.only_contains_attribute_certs
  pub one_kind : view.only_contains_user_certs + view.only_contains_ca_certs + view.only_contains_attribute_certs ≤ 1
  pub some : SaysNothing view full relative → ⊥

-- there is none: its name is refused, or the rest says none
abbrev pub RefusesIssuingPoint : IssuingDistributionPointView → List ℕ → List ℕ → ErrorKind → Type 0
RefusesIssuingPoint view full relative e =
    RefusesPointName full relative e ⊎ ((e ≡ Value) × ((point : IssuingDistributionPoint) → IsIssuingPointOf view full relative point → ⊥))
