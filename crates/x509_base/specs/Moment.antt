-- What a date-time of the library's calendar shows.
use Rattle.std.specs.Prelude.{unsigned_abs}
use Rattle.jiff_core.specs.declared.civil.datetime.DateTime.{DateTime}
use Rattle.x509_base.specs.CivilTime.{CivilTime, civil_time}

-- the parts that are shown, without the fraction of a second
abbrev pub shown_time : DateTime → CivilTime
shown_time m =
    civil_time (unsigned_abs m.date.year) m.date.month m.date.day m.time.hour m.time.minute m.time.second
