-- Known values, so that a wrong rule in the specs does not check.
use Rattle.std.proofs.Common.{◌≡◌, [], ◌∷◌, map, true, false, Ok, Err, refl, codes}
use Rattle.x509_der.specs.declared.error.ErrorKind.TheVariants.{Malformed}
use Rattle.x509_base.specs.CivilTime.{civil_time, last_date_time, last_utc_time, is_leap_year, days_in_month, days_of_years, days_of_months, unix_seconds}
use Rattle.x509_base.specs.TimeText.{date_time_text, generalized_time_octets, utc_time_octets}
use Rattle.x509_base.specs.TimeReading.{two_digit_number, four_digit_number, generalized_time_reading, utc_time_reading}

-- 1900 and 2100 are no leap years, 2000 and 2400 are
pub leap_years : map is_leap_year (1900 ∷ 2000 ∷ 2023 ∷ 2024 ∷ 2100 ∷ 2400 ∷ []) ≡ false ∷ true ∷ false ∷ true ∷ false ∷ true ∷ []
leap_years = refl

pub month_lengths : map (days_in_month 2023) (1 ∷ 2 ∷ 3 ∷ 4 ∷ 5 ∷ 6 ∷ 7 ∷ 8 ∷ 9 ∷ 10 ∷ 11 ∷ 12 ∷ []) ≡ 31 ∷ 28 ∷ 31 ∷ 30 ∷ 31 ∷ 30 ∷ 31 ∷ 31 ∷ 30 ∷ 31 ∷ 30 ∷ 31 ∷ []
month_lengths = refl

-- thirty years, with seven leap years
pub long_count : days_of_years 30 ≡ 10_957
unfolding days_of_years
long_count = refl

pub unix_seconds-last : unix_seconds last_date_time ≡ 253_402_300_799
unfolding unix_seconds days_of_years days_of_months
unix_seconds-last = refl

pub unix_seconds-last_utc_time : unix_seconds last_utc_time ≡ 2_524_607_999
unfolding unix_seconds days_of_years days_of_months
unix_seconds-last_utc_time = refl

pub known_seconds : (unix_seconds (civil_time 1970 1 1 0 0 0) ≡ 0) × (unix_seconds (civil_time 2002 1 1 12 1 0) ≡ 1_009_886_460)
    × (unix_seconds (civil_time 2030 12 31 8 30 0) ≡ 1_924_936_200)
unfolding unix_seconds days_of_years days_of_months
known_seconds = (refl, refl, refl)

pub known_texts : (date_time_text (civil_time 2002 1 1 12 1 0) ≡ codes "2002-01-01T12:01:00Z")
    × (generalized_time_octets (civil_time 2000 2 29 0 0 0) ≡ codes "20000229000000Z")
    × (utc_time_octets (civil_time 2049 12 31 23 59 59) ≡ codes "491231235959Z")
    × (utc_time_octets (civil_time 1970 1 1 0 0 0) ≡ codes "700101000000Z")
unfolding date_time_text generalized_time_octets utc_time_octets
known_texts = (refl, refl, refl, refl)

-- 29 February 2000; there is no 29 February in 2100, no year 1969, no second 60, no year 50 and no 29 February 2023
pub known_readings : (generalized_time_reading (codes "20000229000000Z") ≡ Ok (civil_time 2000 2 29 0 0 0))
    × (generalized_time_reading (codes "21000229000000Z") ≡ Err Malformed) × (generalized_time_reading (codes "19691231235959Z") ≡ Err Malformed)
    × (utc_time_reading (codes "161231235960Z") ≡ Err Malformed) × (utc_time_reading (codes "500101000000Z") ≡ Err Malformed)
    × (utc_time_reading (codes "230229000000Z") ≡ Err Malformed) × (utc_time_reading (codes "700101000000Z") ≡ Ok (civil_time 1970 1 1 0 0 0))
unfolding generalized_time_reading utc_time_reading generalized_time_octets utc_time_octets two_digit_number four_digit_number
known_readings = (refl, refl, refl, refl, refl, refl, refl)
