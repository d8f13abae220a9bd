use Rattle.std.proofs.Common.{◌↔◌, ◌∙◌, IsTrue, List, subst}
use Rattle.std.proofs.lemmas.Result.{IfOk-weaker}
use Rattle.std.specs.List.{All}
use Rattle.std.specs.Option.{option_copied}
use Rattle.x509_name.specs.declared.attr.type_and_value.AttributeTypeAndValue.{AttributeTypeAndValue}
use Rattle.x509_path_steps.proofs.common_names.allows_common_names.Goals as goal
use Rattle.x509_path_steps.specs.ServerNames.{IsOneAllowed}

pub returns : goal.returns
returns c applied is =
    IfOk-weaker c.allows_rdns.result _ _
    (λ b answers. subst (λ (rdns : List (List AttributeTypeAndValue)). IsTrue b ↔ All (λ rdn. All (λ a. IsOneAllowed applied (option_copied c.args.alternative) a) rdn) rdns)
    (c.as_slice.ensures ∙ c.as_ref.ensures) answers)
    (c.allows_rdns.ensures applied (option_copied c.args.alternative) is c.forms_of-forms.ensures)
