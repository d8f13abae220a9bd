use Rattle.std.proofs.Common.{◌∙◌, refl, sym, subst}
use Rattle.std.proofs.lemmas.Bool.{true≢false}
use Rattle.std.proofs.lemmas.List.{take_all}
use Rattle.std.proofs.lemmas.List.Elements.{All-more}
use Rattle.std.specs.List.{All}
use Rattle.x509_path_steps.proofs.trusted_buf.may_all_be_left.Goals as goal
use Rattle.x509_path_steps.specs.Trusts.{MayBeLeft}

pub returns-then-not-may_be_left : goal.returns-then-not-may_be_left
returns-then-not-may_be_left c = (
  (λ never. absurd (true≢false (sym never))),
  (λ all. absurd (true≢false (sym (c.may_be_left.ensures.1 (subst (λ e. MayBeLeft e) (sym c.extension-item.is) (all c.loop-extension.extension-index c.extension-item.result c.loop-extension-test.true))) ∙ c.if-not-may_be_left.true))),
)

pub loop-extension-preserved : goal.loop-extension-preserved
loop-extension-preserved c =
    All-more (λ e. MayBeLeft e) c.args.extensions.now c.loop-extension.extension-index c.extension-item.result c.loop-extension-test.true c.loop-extension.invariant
    (subst (λ e. MayBeLeft e) c.extension-item.is (c.may_be_left.ensures.0 c.if-not-may_be_left.false))

pub returns : goal.returns
returns c = ((λ yes. subst (All (λ e. MayBeLeft e)) (take_all c.loop-extension.extension-index c.args.extensions.now c.loop-extension-test.false) c.loop-extension.invariant), (λ h. refl))
