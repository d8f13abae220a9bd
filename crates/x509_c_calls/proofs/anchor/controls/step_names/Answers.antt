use Rattle.std.proofs.Common.{◌++◌, ◌∙◌, append_assoc}
use Rattle.x509_c_calls.proofs.AnchorFields.{is_explicit_3}
use Rattle.x509_c_calls.proofs.anchor.controls.step_names.Goals as goal
use Rattle.x509_c_calls.proofs.Octets.{is_explicit_0, is_list_1}
use Rattle.x509_c_calls.proofs.Optional.{element_at}
use Rattle.x509_der.specs.Frames.{fields_octets, implicit, optional_octets}
use Rattle.x509_der.specs.Form.{spelling}
use Rattle.x509_ext.specs.GeneralSubtree.{general_subtrees}
use Rattle.x509_ext.specs.NameConstraints.{name_constraints, name_constraints_fields}

pub returns-in-Some : goal.returns-in-Some
unfolding fields_octets name_constraints_fields
returns-in-Some c = λ more e.
    let it = c.in-Some.names in
    let here = rw c.in-Some.is at e in
    let first = optional_octets (spelling (implicit 0 general_subtrees)) it.permitted_subtrees in
    let second = optional_octets (spelling (implicit 1 general_subtrees)) it.excluded_subtrees in
    let inside = c.enter.ensures.stands 163 (name_constraints.content it) more is_explicit_3 here in
    let permitted = element_at (implicit 0 general_subtrees) (λ v. is_explicit_0) it.permitted_subtrees _ (second ++ more) _ _ _ _ c.is_some.ensures (inside.1 ∙ append_assoc first second more) c.step_optional-permitted.ensures.there c.step_optional-permitted.ensures.absent in
    let excluded = element_at (implicit 1 general_subtrees) (λ v. is_list_1) it.excluded_subtrees _ more _ _ _ _ c.is_some-in-Some.ensures permitted.1 c.step_optional-excluded.ensures.there c.step_optional-excluded.ensures.absent in
    rw c.in-Some.is (record { permitted = permitted.0; excluded = excluded.0 })
