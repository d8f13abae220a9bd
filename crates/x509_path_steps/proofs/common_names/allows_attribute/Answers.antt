use Rattle.std.proofs.Common.{◌∙◌, sym}
use Rattle.std.proofs.lemmas.Result.{IfOk-weaker}
use Rattle.x509_path_steps.proofs.CommonNames.{asked_as, form_known, named_in_san, not_asked}
use Rattle.x509_path_steps.proofs.common_names.allows_attribute.Goals as goal

pub returns-in_default : goal.returns-in_default
returns-in_default c applied names is are = not_asked applied names c.args.attribute.now (rw c.in_default.is at c.in_ok-name.ensures)

pub returns-then-has_form : goal.returns-then-has_form
returns-then-has_form c applied names is are =
    named_in_san applied names c.args.attribute.now c.in-Some.name (rw c.in-Some.is at c.in_ok-name.ensures) (sym (form_known c.args.forms names are c.in-Some.name) ∙ (sym c.has_form.ensures ∙ c.if-has_form.true))

pub returns : goal.returns
returns c applied names is are =
    IfOk-weaker c.allows.result _ _
    (λ b answers. asked_as applied names c.args.attribute.now c.in-Some.name b (rw c.in-Some.is at c.in_ok-name.ensures)
    (sym (form_known c.args.forms names are c.in-Some.name) ∙ (sym c.has_form.ensures ∙ c.if-has_form.false)) answers) (c.allows.ensures.same applied is)
