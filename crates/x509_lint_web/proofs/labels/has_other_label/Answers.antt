use Rattle.std.proofs.Common.{◌==◌, ◌∙◌, rules, sym}
use Rattle.std.proofs.lemmas.Iterator.Consumers.{YieldsList-turn, YieldsList-end}
use Rattle.std.proofs.lemmas.Iterator.Splits.{YieldsList-from_slice_split}
use Rattle.std.specs.List.{slice_split}
use Rattle.x509_lint_web.specs.Label.{is_other_label}
use Rattle.x509_lint.proofs.LabelSteps.{at_label, at_one, past_all, past_label}
use Rattle.x509_lint_web.proofs.labels.has_other_label.Goals as goal

pub loop-label-preserved : goal.loop-label-preserved
loop-label-preserved c =
    let turn = YieldsList-turn (YieldsList-from_slice_split _ (λ octet. octet == 46) c.args.text.now (cc) (cc) (cc) (λ x b q k. search rules)) c.loop-label.yielded _ c.loop-label.yielded_by _ _ c.in-Some.label c.in-Some.is c.next.ensures.steps in
    let here = at_label is_other_label (slice_split (λ octet. octet == 46) c.args.text.now) _ _ c.in-Some.label turn c.loop-label.invariant.left in
    record { can_next = search rules; is_finite = search rules; left = past_label _ _ _ _ (sym c.in_ok-is_other_label.ensures ∙ c.if-branch.false) here }

pub returns-then-branch : goal.returns-then-branch
returns-then-branch c =
    let turn = YieldsList-turn (YieldsList-from_slice_split _ (λ octet. octet == 46) c.args.text.now (cc) (cc) (cc) (λ x b q k. search rules)) c.loop-label.yielded _ c.loop-label.yielded_by _ _ c.in-Some.label c.in-Some.is c.next.ensures.steps in
    let here = at_label is_other_label (slice_split (λ octet. octet == 46) c.args.text.now) _ _ c.in-Some.label turn c.loop-label.invariant.left in
    at_one _ _ _ _ (sym c.in_ok-is_other_label.ensures ∙ c.if-branch.true) here

pub returns : goal.returns
returns c =
    let end = YieldsList-end (YieldsList-from_slice_split _ (λ octet. octet == 46) c.args.text.now (cc) (cc) (cc) (λ x b q k. search rules)) c.loop-label.yielded _ c.loop-label.yielded_by _ _ c.in-None.is c.next.ensures.steps in
    past_all is_other_label (slice_split (λ octet. octet == 46) c.args.text.now) _ end.1 c.loop-label.invariant.left
