use Rattle.std.proofs.Common.{◌≡◌, ◌↔◌, ◌∙◌, Some, false, subst, sym}
use Rattle.std.proofs.lemmas.Bool.{true≢false}
use Rattle.std.specs.Option.{option_map}
use Rattle.x509_path_steps.proofs.LeftPurposes.{asked_here, asked_nowhere, narrowed}
use Rattle.x509_path_steps.proofs.purposes.purposes_behind.Goals as goal
use Rattle.x509_path_steps.proofs.purposes.purposes_behind.Goals.{else-not-asked-via-then-not-asked+else-not-is_last, else-not-asked-via-else-not-asked}
use Rattle.x509_path_steps.specs.Steps.{AreLeft, asked_before}
use Rattle.x509_path_steps.specs.Validation.{AllowsPurpose}
use Rattle.x509_policy.specs.Levels.{In}
use Rattle.x509_policy.specs.Views.{octets_of}

pub returns-in_default : goal.returns-in_default
returns-in_default c = λ purposes before certificate same left.
    subst (λ o. AreLeft purposes (asked_before c.args.asked.now.uses.is_chained before) (option_map (λ v. octets_of v.items) o)) c.in_default.is left

pub returns-then-not-is_last : goal.returns-then-not-is_last
returns-then-not-is_last c = λ purposes before certificate same left.
    let chained = c.args.asked.now.uses.is_chained in
    let there : AreLeft purposes (asked_before chained before) (Some (octets_of c.in-Some.purposes.items)) =
    subst (λ o. AreLeft purposes (asked_before chained before) (option_map (λ v. octets_of v.items) o)) c.in-Some.is left in
    subst (λ asked. AreLeft purposes asked (Some (octets_of c.in_ok-from_slice.field-0.items))) (asked_nowhere chained c.args.is_last before certificate c.if-not-asked.true c.if-not-is_last.true)
    (subst (λ items. AreLeft purposes (asked_before chained before) (Some (octets_of items))) (sym (c.in_ok-from_slice.ensures.items ∙ c.as_slice.ensures.value)) there)

pub returns : goal.returns
returns c = λ purposes before certificate same left.
    let chained = c.args.asked.now.uses.is_chained in
    let some : (chained ≡ false → c.args.is_last ≡ false → ⊥) = elim c.else-not-asked.branch [
      | else-not-asked-via-then-not-asked+else-not-is_last w ↦ λ apart early. true≢false (sym w.if-not-is_last.false ∙ early)
      | else-not-asked-via-else-not-asked w ↦ λ apart early. true≢false (sym w.if-not-asked.false ∙ apart)
    ] in
    let held = octets_of c.in-Some.purposes.items in
    let found = octets_of c.in_ok-allowed.field-0.items in
    let there : AreLeft purposes (asked_before chained before) (Some held) =
    subst (λ o. AreLeft purposes (asked_before chained before) (option_map (λ v. octets_of v.items) o)) c.in-Some.is left in
    subst (λ asked. AreLeft purposes asked (Some found)) (asked_here chained c.args.is_last before certificate some)
    (narrowed purposes (asked_before chained before) certificate held found there
    (λ p. subst (λ items. In p found ↔ (In p (octets_of items) × AllowsPurpose p certificate)) c.as_slice-2.ensures.value (c.in_ok-allowed.ensures certificate same p)))
