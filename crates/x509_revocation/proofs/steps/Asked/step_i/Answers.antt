use Rattle.std.proofs.Common.{◌∙◌, inl, inr, Some, None, refl, subst, sym}
use Rattle.x509_revocation.specs.Lent.{question}
use Rattle.x509_revocation.specs.Says.{FindsDelta}
use Rattle.x509_revocation.proofs.Sought.{in_delta, not_in_delta, unused, used}
use Rattle.x509_revocation.proofs.steps.Asked.step_i.Goals as goal

pub returns-then-not-use_deltas : goal.returns-then-not-use_deltas
returns-then-not-use_deltas g c = λ certificate all complete place lends lent whole own at.
    let asked = question (g.V.SliceVerifier.accepts c.args.self.now.verifier.now) c.args.self.now.settings.now certificate in
    (None, subst (λ l. FindsDelta asked c.args.is_indirect complete l 0 l None) (unused asked all c.if-not-use_deltas.true) refl, at)

pub returns-then-is_some : goal.returns-then-is_some
returns-then-is_some g c = λ certificate all complete place lends lent whole.
    let asked = question (g.V.SliceVerifier.accepts c.args.self.now.verifier.now) c.args.self.now.settings.now certificate in
    let looked = rw c.in-Ok-Some.field-0-is at (c.in-Ok-Some.ensures certificate all complete lends lent whole) in
    let there = in_delta certificate c.in-Ok-Some.found.place looked.0 c.in-Ok-Some.found.entry (sym c.is_some.ensures ∙ c.if-is_some.true) looked.2 in (
      Some (c.in-Ok-Some.found.place, looked.0),
      subst (λ l. FindsDelta asked c.args.is_indirect complete l 0 l (Some (c.in-Ok-Some.found.place, looked.0))) (used asked all c.if-not-use_deltas.false) looked.1,
      inl (there.0, there.1, there.2),
    )

pub returns-else-is_some : goal.returns-else-is_some
returns-else-is_some g c = λ certificate all complete place lends lent whole own at.
    let asked = question (g.V.SliceVerifier.accepts c.args.self.now.verifier.now) c.args.self.now.settings.now certificate in
    let looked = rw c.in-Ok-Some.field-0-is at (c.in-Ok-Some.ensures certificate all complete lends lent whole) in
    let none = not_in_delta certificate c.in-Ok-Some.found.place looked.0 c.in-Ok-Some.found.entry (sym c.is_some.ensures ∙ c.if-is_some.false) looked.2 in (
      Some (c.in-Ok-Some.found.place, looked.0),
      subst (λ l. FindsDelta asked c.args.is_indirect complete l 0 l (Some (c.in-Ok-Some.found.place, looked.0))) (used asked all c.if-not-use_deltas.false) looked.1,
      inr (none, at),
    )

pub returns-in-Ok-None : goal.returns-in-Ok-None
returns-in-Ok-None g c = λ certificate all complete place lends lent whole own at.
    let asked = question (g.V.SliceVerifier.accepts c.args.self.now.verifier.now) c.args.self.now.settings.now certificate in
    let looked = rw c.in-Ok-None.field-0-is at (c.in-Ok-None.ensures certificate all complete lends lent whole) in
    (None, subst (λ l. FindsDelta asked c.args.is_indirect complete l 0 l None) (used asked all c.if-not-use_deltas.false) looked, at)
