use Rattle.std.proofs.Common.{◌∙◌, inl, ap, refl, subst, sym}
use Rattle.std.proofs.lemmas.Bool.{true≢false}
use Rattle.x509_ext.specs.RevocationEquality.{exact_reasons}
use Rattle.x509_revocation.specs.Crls.{HasList}
use Rattle.x509_revocation.specs.Says.{Covers}
use Rattle.x509_revocation.specs.Status.{AddsTo, minus}
use Rattle.x509_revocation.proofs.Named.{if_ok}
use Rattle.x509_revocation.proofs.OneCover.{one_cover, one_list}
use Rattle.x509_revocation.proofs.Signed.{signer_of}
use Rattle.x509_revocation.proofs.steps.Asked.steps_a_to_l.Goals as goal

pub returns-then-not-is_usable : goal.returns-then-not-is_usable
returns-then-not-is_usable g c = λ certificate all given lends points lents lent.
    inl ((λ reasons revoked says adds. true≢false (sym ((c.in_ok-is_usable.ensures given lent).1 says.complete) ∙ c.if-not-is_usable.true)), refl)

pub returns-in_default-covered : goal.returns-in_default-covered
returns-in_default-covered g c = λ certificate all given lends points lents lent.
    let listed : HasList given.crl c.in-Some.list = rw c.in-Some.is at (c.in_ok-listed.ensures given.crl lent.crl) in
    let none = rw c.in_default-covered.is at (c.in_ok-covered.ensures certificate given.crl lends lent.crl points listed) in
    inl ((λ reasons revoked says adds. none reasons (subst (λ l. Covers certificate given.crl l reasons) (one_list given.crl says.list c.in-Some.list says.covers.has_list listed) says.covers)), refl)

pub returns-then-eq : goal.returns-then-eq
returns-then-eq g c = λ certificate all given lends points lents lent.
    let listed : HasList given.crl c.in-Some.list = rw c.in-Some.is at (c.in_ok-listed.ensures given.crl lent.crl) in
    let covers : Covers certificate given.crl c.in-Some.list c.in-Some-covered.reasons = rw c.in-Some-covered.is at (c.in_ok-covered.ensures certificate given.crl lends lent.crl points listed) in
    let same = sym c.minus-rest.ensures ∙ (exact_reasons c.minus-rest.result c.args.left).0 (sym c.eq.ensures ∙ c.if-eq.true) in
    inl ((λ reasons revoked says adds. adds (ap (minus c.args.left) (one_cover certificate given.crl says.list c.in-Some.list reasons c.in-Some-covered.reasons says.covers covers) ∙ same)), refl)

pub returns : goal.returns
returns g c =
    if_ok _ _ c.steps_g_to_l.result (λ step said certificate all given lends points lents lent.
    let listed : HasList given.crl c.in-Some.list = rw c.in-Some.is at (c.in_ok-listed.ensures given.crl lent.crl) in
    let covers : Covers certificate given.crl c.in-Some.list c.in-Some-covered.reasons = rw c.in-Some-covered.is at (c.in_ok-covered.ensures certificate given.crl lends lent.crl points listed) in
    let ready = (c.in_ok-is_usable.ensures given lent).0 c.if-not-is_usable.false in
    let adds : AddsTo c.args.left c.in-Some-covered.reasons = (λ same. true≢false (sym ((exact_reasons c.minus-rest.result c.args.left).1 (c.minus-rest.ensures ∙ same)) ∙ (sym c.eq.ensures ∙ c.if-eq.false))) in
    let by = signer_of given.signer given.crl ready.of_signer in
    said certificate all given c.in-Some-covered.reasons lends lents (record { lends = lent; signer = by.0; is = by.1 }) ready covers adds c.minus-rest.ensures) c.steps_g_to_l.ensures
