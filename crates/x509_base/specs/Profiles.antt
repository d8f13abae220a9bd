-- What the two profiles check and how they spell dates (RFC 5280 4.1.2.2, 4.1.2.5).
use Rattle.std.specs.Prelude.{ℕ, nat_lt, List, length, Result, Ok, Err, if◌then◌else◌}
use Rattle.x509_der.specs.declared.error.ErrorKind.{ErrorKind}
use Rattle.x509_der.specs.declared.error.ErrorKind.TheVariants.{Malformed}
use Rattle.x509_base.specs.Time.{time_at}
use Rattle.x509_base.specs.declared.time.Time.{Time}
use Rattle.x509_base.specs.declared.time.Time.TheVariants.{UtcTime, GeneralTime}

-- a serial number of at most 21 content octets: the 20 of RFC 5280 4.1.2.2, and one that may stand in front for the sign
abbrev pub rfc5280_serial_number : List ℕ → Result Unit ErrorKind
rfc5280_serial_number content = if nat_lt 21 (length content) then Err Malformed else Ok tt

-- a date through 2049 as UTCTime, others as they are
abbrev pub rfc5280_time : Time → Time
rfc5280_time (UtcTime c) = UtcTime c
rfc5280_time (GeneralTime c) = time_at c
