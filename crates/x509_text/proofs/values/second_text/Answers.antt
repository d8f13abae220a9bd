use Rattle.std.proofs.Common.{refl}
use Rattle.x509_text.specs.Values.{second_text}
use Rattle.x509_text.proofs.values.second_text.Goals as goal

pub returns : goal.returns
unfolding second_text
returns c =
    rw (
      c.in_ok-write_behind-5.ensures,
      c.in_ok-write_behind-4.ensures,
      c.in_ok-write_behind-3.ensures,
      c.in_ok-write_behind-2.ensures,
      c.in_ok-write_behind.ensures,
      c.in_ok-write_four.ensures,
      c.in_ok-text.ensures.bytes,
      c.year.ensures.value,
      c.month-month.ensures,
      c.day-day.ensures,
      c.hour.ensures,
      c.minutes.ensures,
      c.seconds.ensures,
    )
    refl
