-- The texts and the contents of date-times, in decimal digits of ASCII.
use Rattle.std.specs.Prelude.{ℕ, ◌+◌, ◌/◌, ◌%◌, List, [], ◌∷◌, ◌++◌, codes}
use Rattle.x509_base.specs.CivilTime.{CivilTime}

-- the two digits of a number below 100
abbrev pub two_digits : ℕ → List ℕ
two_digits n = (48 + n / 10) ∷ (48 + n % 10) ∷ []

-- the four digits of a number below 10,000
abbrev pub four_digits : ℕ → List ℕ
four_digits n = two_digits (n / 100) ++ two_digits (n % 100)

-- YYYY-MM-DDTHH:MM:SSZ (RFC 3339 5.6)
unfoldable pub date_time_text : CivilTime → List ℕ
date_time_text c =
    four_digits c.year ++ codes "-" ++ two_digits c.month ++ codes "-" ++ two_digits c.day ++ codes "T"
    ++ two_digits c.hour ++ codes ":" ++ two_digits c.minutes ++ codes ":" ++ two_digits c.seconds ++ codes "Z"

-- MMDDHHMMSSZ, which ends the content of either type
abbrev pub octets_from_month : CivilTime → List ℕ
octets_from_month c =
    two_digits c.month ++ two_digits c.day ++ two_digits c.hour ++ two_digits c.minutes ++ two_digits c.seconds ++ codes "Z"

-- the content of a GeneralizedTime, YYYYMMDDHHMMSSZ (X.690 11.7, RFC 5280 4.1.2.5.2)
unfoldable pub generalized_time_octets : CivilTime → List ℕ
generalized_time_octets c = four_digits c.year ++ octets_from_month c

-- the content of a UTCTime, YYMMDDHHMMSSZ, with the last two digits of the year (X.690 11.8, RFC 5280 4.1.2.5.1)
unfoldable pub utc_time_octets : CivilTime → List ℕ
utc_time_octets c = two_digits (c.year % 100) ++ octets_from_month c
