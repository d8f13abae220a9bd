use Rattle.x509_c_calls.proofs.Octets.{is_explicit_0}
use Rattle.x509_c_calls.proofs.Optional.{content_at}
use Rattle.x509_c_calls.proofs.PointNames.{some_at}
use Rattle.x509_c_calls.proofs.payloads.point.step_name.Goals as goal
use Rattle.x509_der.specs.Frames.{explicit}
use Rattle.x509_ext.specs.DistributionPointName.{distribution_point_name}

pub returns-in-Some-clause-stands : goal.returns-in-Some-clause-stands
returns-in-Some-clause-stands c = λ more e.
    let here = content_at (explicit 0 distribution_point_name) (λ v. is_explicit_0) c.args.name.now _ more _ _ _ _ c.is_some.ensures e c.step_optional_content-element.ensures.there c.step_optional_content-element.ensures.absent in
    (some_at _ _ _ more _ _ _ c.in-Some.is here.0 (λ stands. c.name_places.ensures _ more stands), here.1)
