use Rattle.std.proofs.Common.{◌↔◌, Bool, true, IsTrue, refl, subst}
use Rattle.std.specs.List.{All}
use Rattle.x509_revocation.specs.Crls.{HasList}
use Rattle.x509_revocation.specs.Lent.{question}
use Rattle.x509_revocation.specs.Points.{is_indirect}
use Rattle.x509_revocation.specs.Says.{Replaces}
use Rattle.x509_revocation.proofs.Faulty.{by_list, no_key, some_anchor}
use Rattle.x509_revocation.proofs.steps.Asked.is_newest.Goals as goal

pub returns-then-not-is_anchor : goal.returns-then-not-is_anchor
returns-then-not-is_anchor g c = λ certificate all given lends lents lent.
    let asked = question (g.V.SliceVerifier.accepts c.args.self.now.verifier.now) c.args.self.now.settings.now certificate in
    let listed : HasList given.crl c.in-Some.list = rw c.in-Some.is at (c.in_ok-listed.ensures given.crl lent.crl) in
    by_list given.crl (λ list. All (λ other. Replaces asked (is_indirect list) other given → ⊥) all) c.in-Some.list true listed (
      (λ is. (λ k d within replaces. no_key c.args.given.now.signer c.is_anchor.result c.is_anchor.ensures given.signer _ c.if-not-is_anchor.true lent.signer replaces.one_key)),
      (λ every. refl),
    )

pub returns : goal.returns
returns g c = λ certificate all given lends lents lent.
    let asked = question (g.V.SliceVerifier.accepts c.args.self.now.verifier.now) c.args.self.now.settings.now certificate in
    let listed : HasList given.crl c.in-Some.list = rw c.in-Some.is at (c.in_ok-listed.ensures given.crl lent.crl) in
    let by = some_anchor c.args.given.now.signer c.is_anchor.result c.is_anchor.ensures given.signer c.if-not-is_anchor.false lent.signer in
    let current = c.in_ok-is_current.ensures certificate all given lends lents (record { lends = lent; signer = by.0; is = by.1 }) in
    by_list given.crl (λ list. All (λ other. Replaces asked (is_indirect list) other given → ⊥) all) c.in-Some.list c.in_ok-is_current.is_current listed
    (subst (λ (b : Bool). IsTrue c.in_ok-is_current.is_current ↔ All (λ other. Replaces asked b other given → ⊥) all) c.is_indirect.ensures current)
