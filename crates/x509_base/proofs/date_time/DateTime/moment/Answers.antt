use Rattle.std.proofs.Common.{arith, refl, w16}
use Rattle.std.proofs.lemmas.Int.{to_z_pos}
use Rattle.x509_base.specs.CivilTime.{civil_time}
use Rattle.x509_base.proofs.MomentLemmas.{civil_nanos-clock}
use Rattle.x509_base.proofs.date_time.DateTime.moment.Goals as goal

pub returns : goal.returns
returns c =
    let d = c.self.inside in
    let real = c.self.invariant in
    let year = to_z_pos w16 d.year (omega (arith, real.0.1)) in
    rw (← c.self.view_is) (civil_nanos-clock _ (civil_time d.year d.month d.day d.hour d.minutes d.seconds) real.0.0 year refl refl refl refl refl refl)
