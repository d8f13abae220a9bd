-- An entry of a CRL, by its place in a list of them (RFC 5280 5.1.2.6).
use Rattle.std.specs.Prelude.{◌≡◌, ℕ, List, ◌++◌}
use Rattle.x509_base.specs.Serial.{serial_number}
use Rattle.x509_base.specs.CivilTime.{unix_seconds}
use Rattle.x509_base.specs.Profiles.{rfc5280_serial_number}
use Rattle.x509_base.specs.Time.{date_time_of, time}
use Rattle.x509_base.specs.declared.profile.Rfc5280.{Rfc5280}
use Rattle.x509_c_calls.specs.declared.crl.entry.CrlEntryView.{CrlEntryView}
use Rattle.x509_c_calls.specs.Optional.{IsPerhapsAt}
use Rattle.x509_c_calls.specs.Place.{IsAt}
use Rattle.x509_cert.specs.declared.crl.revoked_cert.RevokedCert.{RevokedCert}
use Rattle.x509_der.specs.Frames.{optional_octets}
use Rattle.x509_der.specs.Form.{spelling}
use Rattle.x509_ext.specs.Extension.{extensions}

-- the extensions as they are written
abbrev pub extensions_text : RevokedCert Rfc5280 → List ℕ
extensions_text entry = optional_octets (spelling extensions) entry.crl_entry_extensions

-- what the view says of an entry in these bytes, behind which those others stand
pub record IsEntry (bytes : List ℕ) (entry : RevokedCert Rfc5280) (behind : List ℕ) (view : CrlEntryView) : Type 0 where
  pub serial_number : IsAt (spelling (serial_number rfc5280_serial_number) entry.serial_number) (spelling time entry.revocation_date ++ (extensions_text entry ++ behind)) bytes view.serial_number
  pub date : view.date ≡ unix_seconds (date_time_of entry.revocation_date)
  pub extensions : IsPerhapsAt (spelling extensions) entry.crl_entry_extensions behind bytes view.extensions
