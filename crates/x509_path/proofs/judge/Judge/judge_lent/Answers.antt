use Rattle.std.proofs.Common.{◌≡◌, ◌∙◌, [], false, refl, sym, subst}
use Rattle.std.proofs.lemmas.Bool.{true≢false}
use Rattle.std.proofs.lemmas.List.{take_all}
use Rattle.std.proofs.lemmas.List.Elements.{All-more}
use Rattle.std.specs.List.{All}
use Rattle.x509_path.specs.Path.{Breaks, reasons}
use Rattle.x509_path.specs.PathLength.{HasConstraints, standing}
use Rattle.x509_path.specs.declared.fault.PathReason.TheVariants.{Decode}
use Rattle.x509_path.proofs.Firsts.{first_wrong_at}
use Rattle.x509_path.proofs.Judged.{none}
use Rattle.x509_path.proofs.judge.Judge.judge_lent.Goals as goal

pub loop-reason-preserved : goal.loop-reason-preserved
loop-reason-preserved g c = λ certificate above lends same stands before leaves.
    let said = λ (early : c.args.place.now.is_last ≡ false). subst (λ es. HasConstraints es c.basic_constraints-constraints.result) same (c.basic_constraints-constraints.ensures early) in
    All-more (λ r. Breaks (g.T.Trust.accepts c.args.self.now.trust.now) c.args.self.now.moment (standing above.name above.key before c.args.place.now.is_last) c.args.certificate.now.bytes.now certificate r → ⊥)
    reasons c.loop-reason.reason-index Decode c.loop-reason-test.true (c.loop-reason.invariant certificate above lends same stands before leaves)
    (λ is. true≢false (sym ((c.in_ok-breaks.ensures.ok certificate above lends same said stands before leaves).1 is) ∙ c.if-branch.false))

pub returns-then-branch-clause-judged : goal.returns-then-branch-clause-judged
returns-then-branch-clause-judged g c = λ certificate above lends same stands before leaves.
    let said = λ (early : c.args.place.now.is_last ≡ false). subst (λ es. HasConstraints es c.basic_constraints-constraints.result) same (c.basic_constraints-constraints.ensures early) in (
      refl,
      first_wrong_at Decode (Breaks (g.T.Trust.accepts c.args.self.now.trust.now) c.args.self.now.moment (standing above.name above.key before c.args.place.now.is_last) c.args.certificate.now.bytes.now) c.args.certificate.now.bytes.now certificate lends
          reasons [] c.loop-reason.reason-index Decode c.loop-reason-test.true (λ h. h) (c.loop-reason.invariant certificate above lends same stands before leaves)
          ((c.in_ok-breaks.ensures.ok certificate above lends same said stands before leaves).0 c.if-branch.true),
    )

pub returns-clause-judged : goal.returns-clause-judged
returns-clause-judged g c = λ certificate above lends same stands before leaves.
    let said = λ (early : c.args.place.now.is_last ≡ false). subst (λ es. HasConstraints es c.basic_constraints-constraints.result) same (c.basic_constraints-constraints.ensures early) in
    let free = subst (All (λ r. Breaks (g.T.Trust.accepts c.args.self.now.trust.now) c.args.self.now.moment (standing above.name above.key before c.args.place.now.is_last) c.args.certificate.now.bytes.now certificate r → ⊥))
    (take_all c.loop-reason.reason-index reasons c.loop-reason-test.false) (c.loop-reason.invariant certificate above lends same stands before leaves) in (
      said,
      (lends, none (Breaks (g.T.Trust.accepts c.args.self.now.trust.now) c.args.self.now.moment (standing above.name above.key before c.args.place.now.is_last) c.args.certificate.now.bytes.now certificate) (λ h. h) free),
    )
