use Rattle.std.proofs.Common.{◌++◌, ◌∙◌, append_assoc}
use Rattle.x509_c_calls.proofs.Octets.{is_explicit_0, is_list_1, is_sequence}
use Rattle.x509_c_calls.proofs.Optional.{element_at}
use Rattle.x509_c_calls.proofs.payloads.subtree.NameConstraintsViewView.view.Goals as goal
use Rattle.x509_der.specs.Frames.{fields_octets, implicit, optional_octets}
use Rattle.x509_der.specs.Form.{spelling}
use Rattle.x509_ext.specs.GeneralSubtree.{general_subtrees}
use Rattle.x509_ext.specs.NameConstraints.{name_constraints, name_constraints_fields}

pub returns : goal.returns
unfolding fields_octets name_constraints_fields
returns c = λ behind e.
    let it = c.args.value.now in
    let first = optional_octets (spelling (implicit 0 general_subtrees)) it.permitted_subtrees in
    let second = optional_octets (spelling (implicit 1 general_subtrees)) it.excluded_subtrees in
    let inside = c.enter.ensures.stands 48 (name_constraints.content it) behind is_sequence e in
    let permitted = element_at (implicit 0 general_subtrees) (λ v. is_explicit_0) it.permitted_subtrees _ (second ++ behind) _ _ _ _ c.is_some.ensures (inside.1 ∙ append_assoc first second behind) c.step_optional.ensures.there c.step_optional.ensures.absent in
    let excluded = element_at (implicit 1 general_subtrees) (λ v. is_list_1) it.excluded_subtrees _ behind _ _ _ _ c.is_some-2.ensures permitted.1 c.step_optional-2.ensures.there c.step_optional-2.ensures.absent in
    record { permitted = permitted.0; excluded = excluded.0 }
