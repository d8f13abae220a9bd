-- What a fault of a certificate is about.
use Rattle.std.specs.Prelude.{◌≡◌, ◌<◌, ◌≤◌, Bool, true, List, ◌∷◌, ◌++◌, Option, Some, None}
use Rattle.std.specs.List.{All}
use Rattle.x509_base.specs.CivilTime.{CivilTime, unix_seconds}
use Rattle.x509_base.specs.Time.{date_time_of}
use Rattle.x509_base.specs.declared.profile.Rfc5280.{Rfc5280}
use Rattle.x509_base.specs.declared.validity.Validity.{Validity}
use Rattle.x509_ext.specs.declared.extension.Extension.{Extension}
use Rattle.x509_path.specs.Certificates as certificates
use Rattle.x509_path_steps.specs.Validation.{IsDecodable, IsProcessed}
use Rattle.x509_path_steps.specs.declared.validation_fault.ValidationReason.{ValidationReason}
use Rattle.x509_path_steps.specs.declared.validation_fault.ValidationReason.TheVariants.{Critical, Extension as Undecodable}
use Rattle.x509_validation.specs.declared.details.OutOfDate.{OutOfDate}
use Rattle.x509_validation.specs.declared.details.OutOfDate.TheVariants.{NotYetValid, Expired}

-- on which side of the validity the moment is (RFC 5280 4.1.2.5)
abbrev pub IsSide : CivilTime → Validity Rfc5280 → Option OutOfDate → Type 0
IsSide moment validity None = certificates.IsOutside moment validity → ⊥
IsSide moment validity (Some NotYetValid) = unix_seconds moment < unix_seconds (date_time_of validity.not_before)
IsSide moment validity (Some Expired) =
    (unix_seconds (date_time_of validity.not_before) ≤ unix_seconds moment) × (unix_seconds (date_time_of validity.not_after) < unix_seconds moment)

-- a fault of that reason is about the extension
abbrev pub IsFaulty : Bool → ValidationReason → Extension → Type 0
IsFaulty asks_purpose Undecodable e = IsDecodable e → ⊥
IsFaulty asks_purpose Critical e = (e.critical ≡ true) × (IsProcessed asks_purpose e → ⊥)
IsFaulty asks_purpose _ e = ⊥

-- it is the first of these of which that holds
pub record IsFirstOf (holds : Extension → Type 0) (extensions : List Extension) (e : Extension) : Type 0 where
  pub before : List Extension
  pub behind : List Extension
  pub order : extensions ≡ before ++ e ∷ behind
  pub none_before : All (λ x. holds x → ⊥) before
  pub is : holds e
