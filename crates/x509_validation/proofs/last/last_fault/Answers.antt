use Rattle.std.proofs.Common.{◌∙◌, ap, sym, subst}
use Rattle.std.proofs.lemmas.Bool.{true≢false}
use Rattle.std.proofs.lemmas.List.{take_all}
use Rattle.std.proofs.lemmas.List.Elements.{All-more}
use Rattle.std.specs.List.{All}
use Rattle.x509_path.specs.Lent.{lent_extensions}
use Rattle.x509_path_steps.specs.declared.validation_fault.ValidationReason.TheVariants.{Decode}
use Rattle.x509_validation.proofs.Lasts.{first_lone, none_lone}
use Rattle.x509_validation.proofs.last.last_fault.Goals as goal
use Rattle.x509_validation.specs.Last.{BreaksAlone, asked_alone, lone_reasons}

pub loop-reason-preserved : goal.loop-reason-preserved
loop-reason-preserved c = λ certificate lends.
    let same = ap lent_extensions c.as_slice.ensures.value ∙ c.in_ok-extensions.ensures ∙ c.extensions.ensures certificate lends in
    All-more (λ r. BreaksAlone (asked_alone c.args.settings.now) certificate r → ⊥) lone_reasons c.loop-reason.reason-index Decode c.loop-reason-test.true (c.loop-reason.invariant certificate lends)
    (λ is. true≢false (sym ((c.in_ok-breaks_alone.ensures certificate lends same).1 is) ∙ c.if-branch.false))

pub returns-then-branch : goal.returns-then-branch
returns-then-branch c = λ certificate lends.
    let same = ap lent_extensions c.as_slice.ensures.value ∙ c.in_ok-extensions.ensures ∙ c.extensions.ensures certificate lends in
    first_lone (asked_alone c.args.settings.now) certificate c.loop-reason.reason-index c.loop-reason-test.true (c.loop-reason.invariant certificate lends)
    ((c.in_ok-breaks_alone.ensures certificate lends same).0 c.if-branch.true)

pub returns : goal.returns
returns c = λ certificate lends.
    none_lone (asked_alone c.args.settings.now) certificate
    (subst (All (λ r. BreaksAlone (asked_alone c.args.settings.now) certificate r → ⊥)) (take_all c.loop-reason.reason-index lone_reasons c.loop-reason-test.false) (c.loop-reason.invariant certificate lends))
