use Rattle.std.proofs.Common.{subst}
use Rattle.x509_path.specs.Lent.{LendsAnchor, StandsAbove}
use Rattle.x509_path.proofs.Lent.{differ, issuer_spells, other_issuer}
use Rattle.x509_path.proofs.judge.Judge.is_of_another.Goals as goal

pub returns-in-Some-clause-ok : goal.returns-in-Some-clause-ok
returns-in-Some-clause-ok g c = λ certificate above lends stands.
    let here : LendsAnchor c.in-Some.above above = subst (λ o. StandsAbove (g.T.Trust.is_anchor c.args.self.now.trust.now) o above) c.in-Some.is stands in
    rw c.ne.ensures (other_issuer certificate c.args.certificate.now.bytes.now lends c.issuer.result.now c.in-Some.above.name.now above.name (c.issuer.ensures certificate lends) here.0)

pub returns-in_ok-is_name-in-None-clause-ok : goal.returns-in_ok-is_name-in-None-clause-ok
returns-in_ok-is_name-in-None-clause-ok g c = λ certificate above lends stands.
    let here = subst (λ o. StandsAbove (g.T.Trust.is_anchor c.args.self.now.trust.now) o above) c.in-None.is stands in
    differ c.in_ok-is_name-in-None.is_name
    (c.in_ok-is_name-in-None.ensures.ok certificate.tbs_certificate.issuer above (issuer_spells certificate c.args.certificate.now.bytes.now lends c.issuer-in-None.result.now (c.issuer-in-None.ensures certificate lends)) here)
