-- Texts of serial numbers and of times.
use Rattle.std.specs.Prelude.{◌≡◌, ◌<◌, ℕ, true, false, List, Result, Ok, Err}
use Rattle.x509_base.specs.Serial.{colon_hex}
use Rattle.x509_base.specs.CivilTime.{CivilTime, IsDateTime, last_date_time, unix_seconds}
use Rattle.x509_base.specs.TimeText.{date_time_text}
use Rattle.x509_c_calls.specs.declared.status.status.Status.{Status}
use Rattle.x509_c_calls.specs.declared.status.status.Status.TheVariants.{Done, Refused}
use Rattle.x509_der.specs.declared.error.ErrorKind.{ErrorKind}
use Rattle.x509_der.specs.declared.error.ErrorKind.TheVariants.{Failed, Malformed, Value}
use Rattle.x509_prim.specs.Integer.{is_integer}

-- the content octets of an INTEGER (X.690 8.3) in hex, joined by colons; or Malformed, where they are none's
abbrev pub IsSerialText : List ℕ → Result (List ℕ) ErrorKind → Type 0
IsSerialText content (Ok text) = (is_integer content ≡ true) × (text ≡ colon_hex content)
IsSerialText content (Err e) = (e ≡ Malformed) × (is_integer content ≡ false)

-- the text of the date-time that long after 1970-01-01T00:00:00Z; or Value, after the last one (RFC 5280 4.1.2.5)
abbrev pub IsTimeText : ℕ → Result (List ℕ) ErrorKind → Type 0
IsTimeText moment (Ok text) = (c : CivilTime) × IsDateTime c × (unix_seconds c ≡ moment) × (text ≡ date_time_text c)
IsTimeText moment (Err e) = (e ≡ Value) × (unix_seconds last_date_time < moment)

-- What a call leaves that reads the text of a date-time: how long it is after 1970-01-01T00:00:00Z; or Failed, where it is the text of none, and then
-- what was to be filled in is as it was.
unfoldable pub ReadsMoment : List ℕ → ℕ → ℕ → Status → Type 0
ReadsMoment text was is Done = (c : CivilTime) × IsDateTime c × (text ≡ date_time_text c) × (is ≡ unix_seconds c)
ReadsMoment text was is (Refused e) = (e ≡ Failed) × ((c : CivilTime) → IsDateTime c → text ≡ date_time_text c → ⊥) × (is ≡ was)
ReadsMoment text was is _ = ⊥
