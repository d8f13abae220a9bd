-- What reading a text or a content of a date-time answers.
use Rattle.std.specs.Prelude.{◌≡◌, ℕ, ◌+◌, ◌-◌, ◌*◌, ◌≤◌, Bool, ◌&&◌, nat_le, nat_lt, nat_eq, List, Result, Ok, Err, IfOk, IfErr, slice_index, if◌then◌else◌}
use Rattle.std.specs.Cmp.Lexicographic.{pointwise}
use Rattle.x509_der.specs.declared.error.Error.{Error}
use Rattle.x509_der.specs.declared.error.ErrorKind.{ErrorKind}
use Rattle.x509_der.specs.declared.error.ErrorKind.TheVariants.{Malformed}
use Rattle.x509_base.specs.CivilTime.{CivilTime, civil_time, days_in_month, IsDateTime}
use Rattle.x509_base.specs.TimeText.{generalized_time_octets, utc_time_octets}

-- The answer is the good value whose spelling the bytes are. Where there is none, it is a refusal of this kind.
pub record Reads (good : CivilTime → Type 0) (spelling : CivilTime → List ℕ) (refusal : ErrorKind) (bytes : List ℕ) (answer : Result CivilTime Error) : Type 0 where
  pub found : IfOk answer (λ c. good c × (bytes ≡ spelling c))
  pub every : (c : CivilTime) → good c → bytes ≡ spelling c → answer ≡ Ok c
  pub refused : IfErr answer (λ e. e.kind ≡ refusal)

-- a date-time that a UTCTime spells: through 2049 (RFC 5280 4.1.2.5.1)
abbrev pub IsUtcTime : CivilTime → Type 0
IsUtcTime c = IsDateTime c × (c.year ≤ 2049)

-- ---- reading as a function: what the digits at their places name, if it is good and spelled just so

abbrev pub is_digit : ℕ → Bool
is_digit octet = nat_le 48 octet && nat_le octet 57

-- the number of two digits; 255, which no part of a date-time is, where one of the octets is no digit
unfoldable pub two_digit_number : ℕ → ℕ → ℕ
two_digit_number tens ones = if is_digit tens && is_digit ones then 10 * (tens - 48) + (ones - 48) else 255

-- the number of two such numbers; 25,500 and more, which no year is, where one of the octets is no digit
unfoldable pub four_digit_number : ℕ → ℕ → ℕ
four_digit_number high low = if nat_lt low 100 then 100 * high + low else 25500

-- the number of two places
abbrev pub number_at : List ℕ → ℕ → ℕ
number_at bytes place = two_digit_number (slice_index bytes place) (slice_index bytes (place + 1))

-- the number of four places
abbrev pub long_number_at : List ℕ → ℕ → ℕ
long_number_at bytes place = four_digit_number (number_at bytes place) (number_at bytes (place + 2))

-- month, day, hour, minutes and seconds, one after the other
abbrev pub time_from_month : ℕ → List ℕ → ℕ → CivilTime
time_from_month year bytes place =
    civil_time year (number_at bytes place) (number_at bytes (place + 2)) (number_at bytes (place + 4)) (number_at bytes (place + 6)) (number_at bytes (place + 8))

-- what the places of YYYYMMDDHHMMSSZ name
abbrev pub named_generalized_time : List ℕ → CivilTime
named_generalized_time bytes = time_from_month (long_number_at bytes 0) bytes 4

-- 00 to 49 are the years from 2000, any other number a year from 1900 (RFC 5280 4.1.2.5.1)
abbrev pub full_year : ℕ → ℕ
full_year n = if nat_lt n 50 then 2000 + n else 1900 + n

-- what the places of YYMMDDHHMMSSZ name
abbrev pub named_utc_time : List ℕ → CivilTime
named_utc_time bytes = time_from_month (full_year (number_at bytes 0)) bytes 2

-- what the places of YYYY-MM-DDTHH:MM:SSZ name
abbrev pub named_by_text : List ℕ → CivilTime
named_by_text bytes =
    civil_time (long_number_at bytes 0) (number_at bytes 5) (number_at bytes 8) (number_at bytes 11) (number_at bytes 14) (number_at bytes 17)

-- the number lies from low to high
abbrev pub is_in_range : ℕ → ℕ → ℕ → Bool
is_in_range low high n = nat_le low n && nat_le n high

-- the test for IsDateTime
abbrev pub is_date_time : CivilTime → Bool
is_date_time c =
    is_in_range 1970 9999 c.year && (is_in_range 1 12 c.month && (is_in_range 1 (days_in_month c.year c.month) c.day
    && (nat_le c.hour 23 && (nat_le c.minutes 59 && nat_le c.seconds 59))))

-- the test for IsUtcTime
abbrev pub is_utc_time : CivilTime → Bool
is_utc_time c = is_date_time c && nat_le c.year 2049

-- a value, if it is good and the bytes are its spelling
abbrev pub read_as : (CivilTime → Bool) → (CivilTime → List ℕ) → List ℕ → CivilTime → Result CivilTime ErrorKind
read_as is_good spelling bytes c = if is_good c && pointwise nat_eq (spelling c) bytes then Ok c else Err Malformed

unfoldable pub generalized_time_reading : List ℕ → Result CivilTime ErrorKind
generalized_time_reading bytes = read_as is_date_time generalized_time_octets bytes (named_generalized_time bytes)

unfoldable pub utc_time_reading : List ℕ → Result CivilTime ErrorKind
utc_time_reading bytes = read_as is_utc_time utc_time_octets bytes (named_utc_time bytes)
