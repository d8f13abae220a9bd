use Rattle.std.proofs.Common.{◌∷◌, List, subst}
use Rattle.x509_ext.specs.declared.pkix.distribution_point.DistributionPoint.{DistributionPoint}
use Rattle.x509_revocation.specs.Crls.{HasList}
use Rattle.x509_revocation.specs.Faults.{HasAnyIssuer}
use Rattle.x509_revocation.specs.Points.{HasPoints, assumed_point}
use Rattle.x509_revocation.specs.Says.{sides_of}
use Rattle.x509_revocation.proofs.Faulty.{by_list}
use Rattle.x509_revocation.proofs.OneCover.{one_points}
use Rattle.x509_revocation.proofs.steps.Asked.has_issuer.Goals as goal

pub returns : goal.returns
returns g c = λ certificate all given lends points lent.
    let listed : HasList given.crl c.in-Some.list = rw c.in-Some.is at (c.in_ok-listed.ensures given.crl lent) in
    let issuer = certificate.tbs_certificate.issuer in
    let own = c.args.self.now.points.now in
    let said = c.in_ok-is_of_issuer.ensures certificate given.crl lends lent in
    by_list given.crl (λ list. (others : List DistributionPoint) × HasPoints certificate others × HasAnyIssuer (sides_of certificate given.crl list) (assumed_point issuer ∷ others))
    c.in-Some.list c.in_ok-is_of_issuer.is_of_issuer listed (
      (λ is. (own, points, said.0 is)),
      (λ (others, has, any). said.1 (subst (λ p. HasAnyIssuer (sides_of certificate given.crl c.in-Some.list) (assumed_point issuer ∷ p)) (one_points certificate others own has points) any)),
    )
