-- What a call leaves that says on which side of a certificate's validity a moment is (RFC 5280 4.1.2.5).
use Rattle.std.specs.Prelude.{◌≡◌, ◌<◌, ◌⊎◌, ℕ, List, Option, Some, None}
use Rattle.x509_base.specs.CivilTime.{CivilTime, IsDateTime, last_date_time, unix_seconds}
use Rattle.x509_c_calls.specs.declared.status.status.Status.{Status}
use Rattle.x509_c_calls.specs.declared.status.status.Status.TheVariants.{Done, Refused}
use Rattle.x509_cert.specs.Certificate.{rfc5280_certificate}
use Rattle.x509_der.specs.Form.{Spells}
use Rattle.x509_der.specs.declared.error.ErrorKind.{ErrorKind}
use Rattle.x509_der.specs.declared.error.ErrorKind.TheVariants.{Value}
use Rattle.x509_path.specs.Certificates.{Certificate}
use Rattle.x509_types.specs.Reencoding.{IsRefused}
use Rattle.x509_validation.specs.Details.{IsSide}
use Rattle.x509_validation.specs.declared.details.OutOfDate.{OutOfDate}
use Rattle.x509_validation.specs.declared.details.OutOfDate.TheVariants.{NotYetValid, Expired}

-- the number of a side
abbrev pub side_code : Option OutOfDate → ℕ
side_code None = 0
side_code (Some NotYetValid) = 1
side_code (Some Expired) = 2

-- a moment in seconds
pub record IsMoment (seconds : ℕ) (moment : CivilTime) : Type 0 where
  pub real : IsDateTime moment
  pub at : unix_seconds moment ≡ seconds

-- Done: the bytes are a certificate, and the side is filled in. Where the call is refused, the bytes are none, or they are one and the moment is too late.
unfoldable pub TellsSide : (ErrorKind → Type 0) → List ℕ → ℕ → ℕ → ℕ → Status → Type 0
TellsSide refuses input seconds was is Done =
    (c : Certificate) × (moment : CivilTime) × (side : Option OutOfDate)
    × Spells rfc5280_certificate c input × IsMoment seconds moment × IsSide moment c.tbs_certificate.validity side × (is ≡ side_code side)
TellsSide refuses input seconds was is (Refused e) =
    (IsRefused rfc5280_certificate refuses input e ⊎ (((c : Certificate) × Spells rfc5280_certificate c input) × (e ≡ Value) × (unix_seconds last_date_time < seconds)))
    × (is ≡ was)
TellsSide refuses input seconds was is _ = ⊥
