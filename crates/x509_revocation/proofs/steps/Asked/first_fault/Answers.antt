use Rattle.std.proofs.Common.{◌∙◌, subst, sym}
use Rattle.std.proofs.lemmas.Bool.{true≢false}
use Rattle.std.proofs.lemmas.List.{take_all}
use Rattle.std.proofs.lemmas.List.Elements.{All-more, All-nil}
use Rattle.std.specs.List.{All}
use Rattle.x509_revocation.specs.Faults.{Meets, faults}
use Rattle.x509_revocation.specs.Lent.{question}
use Rattle.x509_revocation.specs.declared.fault.CrlFault.TheVariants.{NotYetValid}
use Rattle.x509_revocation.proofs.Faulty.{every, first_unmet}
use Rattle.x509_revocation.proofs.steps.Asked.first_fault.Goals as goal

pub loop-fault-init : goal.loop-fault-init
loop-fault-init g c = λ certificate all given lends points lents lent. All-nil (Meets (question (g.V.SliceVerifier.accepts c.args.self.now.verifier.now) c.args.self.now.settings.now certificate) all given)

pub returns-then-not-meets : goal.returns-then-not-meets
returns-then-not-meets g c = λ certificate all given lends points lents lent.
    first_unmet (Meets (question (g.V.SliceVerifier.accepts c.args.self.now.verifier.now) c.args.self.now.settings.now certificate) all given) faults c.loop-fault.fault-index NotYetValid c.loop-fault-test.true
    (c.loop-fault.invariant certificate all given lends points lents lent) (λ met. true≢false (sym ((c.in_ok-meets.ensures certificate all given lends points lents lent).1 met) ∙ c.if-not-meets.true))

pub loop-fault-preserved : goal.loop-fault-preserved
loop-fault-preserved g c = λ certificate all given lends points lents lent.
    All-more (Meets (question (g.V.SliceVerifier.accepts c.args.self.now.verifier.now) c.args.self.now.settings.now certificate) all given) faults c.loop-fault.fault-index NotYetValid c.loop-fault-test.true
    (c.loop-fault.invariant certificate all given lends points lents lent) ((c.in_ok-meets.ensures certificate all given lends points lents lent).0 c.if-not-meets.false)

pub returns : goal.returns
returns g c = λ certificate all given lends points lents lent.
    every (Meets (question (g.V.SliceVerifier.accepts c.args.self.now.verifier.now) c.args.self.now.settings.now certificate) all given)
    (subst (All (Meets (question (g.V.SliceVerifier.accepts c.args.self.now.verifier.now) c.args.self.now.settings.now certificate) all given)) (take_all c.loop-fault.fault-index faults c.loop-fault-test.false) (c.loop-fault.invariant certificate all given lends points lents lent))
