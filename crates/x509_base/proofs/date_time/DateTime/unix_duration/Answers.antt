use Rattle.std.proofs.Common.{arith}
use Rattle.jiff_core.proofs.SignedLemmas.{signed_arith}
use Rattle.x509_base.specs.CivilTime.{unix_seconds}
use Rattle.x509_base.proofs.MomentLemmas.{second_as_number}
use Rattle.x509_base.proofs.date_time.DateTime.unix_duration.Goals as goal

pub overflow_cast-to_second : goal.overflow_cast-to_second
overflow_cast-to_second c =
    let second = second_as_number c.moment.result c.to_second.result (unix_seconds c.args.self.now) c.to_second.ensures.value c.moment.ensures in
    omega (arith, signed_arith)

pub returns : goal.returns
returns c =
    let second = second_as_number c.moment.result c.to_second.result (unix_seconds c.args.self.now) c.to_second.ensures.value c.moment.ensures in
    rw second at c.from_secs.ensures
