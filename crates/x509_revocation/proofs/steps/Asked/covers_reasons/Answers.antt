use Rattle.std.proofs.Common.{subst}
use Rattle.x509_revocation.specs.Crls.{HasList}
use Rattle.x509_revocation.specs.Says.{Covers}
use Rattle.x509_revocation.proofs.Faulty.{adds_some}
use Rattle.x509_revocation.proofs.OneCover.{one_list}
use Rattle.x509_revocation.proofs.Signed.{never}
use Rattle.x509_revocation.proofs.steps.Asked.covers_reasons.Goals as goal

pub returns-in_default-covered : goal.returns-in_default-covered
returns-in_default-covered g c = λ certificate all given lends points lent.
    let listed : HasList given.crl c.in-Some.list = rw c.in-Some.is at (c.in_ok-listed.ensures given.crl lent) in
    let none = rw c.in_default-covered.is at (c.in_ok-covered.ensures certificate given.crl lends lent points listed) in
    never (λ (other, is, (reasons, covers, adds)). none reasons (subst (λ l. Covers certificate given.crl l reasons) (one_list given.crl other c.in-Some.list is listed) covers))

pub returns : goal.returns
returns g c = λ certificate all given lends points lent.
    let listed : HasList given.crl c.in-Some.list = rw c.in-Some.is at (c.in_ok-listed.ensures given.crl lent) in
    let covers : Covers certificate given.crl c.in-Some.list c.in-Some-covered.reasons = rw c.in-Some-covered.is at (c.in_ok-covered.ensures certificate given.crl lends lent points listed) in
    adds_some certificate given.crl c.in-Some.list c.in-Some-covered.reasons covers c.minus-rest.result c.all_reasons.result c.all_reasons-2.result c.ne.result
    c.all_reasons.ensures c.all_reasons-2.ensures c.minus-rest.ensures c.ne.ensures
