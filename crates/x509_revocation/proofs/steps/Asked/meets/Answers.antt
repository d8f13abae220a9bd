use Rattle.std.proofs.Common.{◌↔◌, IsTrue, subst, sym}
use Rattle.x509_revocation.specs.Faults.{Meets}
use Rattle.x509_revocation.specs.Lent.{question}
use Rattle.x509_revocation.specs.declared.fault.CrlFault.{CrlFault}
use Rattle.x509_revocation.proofs.Named.{if_ok}
use Rattle.x509_revocation.proofs.steps.Asked.meets.Goals as goal

pub returns-in-Issuer : goal.returns-in-Issuer
returns-in-Issuer g c =
    if_ok _ _ c.has_issuer.result (λ b said certificate all given lends points lents lent.
    let asked = question (g.V.SliceVerifier.accepts c.args.self.now.verifier.now) c.args.self.now.settings.now certificate in
    subst (λ (f : CrlFault). IsTrue b ↔ Meets asked all given f) (sym c.in-Issuer.is) (said certificate all given lends points lent.crl)) c.has_issuer.ensures

pub returns-in-Point : goal.returns-in-Point
returns-in-Point g c =
    if_ok _ _ c.covers_reasons.result (λ b said certificate all given lends points lents lent.
    let asked = question (g.V.SliceVerifier.accepts c.args.self.now.verifier.now) c.args.self.now.settings.now certificate in
    subst (λ (f : CrlFault). IsTrue b ↔ Meets asked all given f) (sym c.in-Point.is) (said certificate all given lends points lent.crl)) c.covers_reasons.ensures

pub returns-in-Entry : goal.returns-in-Entry
returns-in-Entry g c =
    if_ok _ _ c.has_usable_entries.result (λ b said certificate all given lends points lents lent.
    let asked = question (g.V.SliceVerifier.accepts c.args.self.now.verifier.now) c.args.self.now.settings.now certificate in
    subst (λ (f : CrlFault). IsTrue b ↔ Meets asked all given f) (sym c.in-Entry.is) (said certificate all given lends lent.crl)) c.has_usable_entries.ensures
