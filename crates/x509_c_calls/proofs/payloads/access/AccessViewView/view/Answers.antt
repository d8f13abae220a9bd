use Rattle.std.proofs.Common.{◌++◌, ◌∙◌, append_assoc}
use Rattle.x509_c_calls.proofs.Octets.{is_oid, is_sequence}
use Rattle.x509_c_calls.proofs.payloads.access.AccessViewView.view.Goals as goal
use Rattle.x509_der.specs.ObjectIdentifierForm.{object_identifier}
use Rattle.x509_der.specs.Frames.{fields_octets}
use Rattle.x509_der.specs.Form.{spelling}
use Rattle.x509_ext.specs.Access.{access_description, access_description_fields}
use Rattle.x509_ext.specs.GeneralName.{general_name}

pub returns : goal.returns
unfolding fields_octets access_description_fields
returns c = λ behind e.
    let it = c.args.value.now in
    let inside = c.enter.ensures.stands 48 (access_description.content it) behind is_sequence e in
    let method = c.step_content.ensures.stands 6 it.access_method (spelling general_name it.access_location ++ behind) is_oid (inside.1 ∙ append_assoc (spelling object_identifier it.access_method) (spelling general_name it.access_location) behind) in
    record { method = method.0; location = c.view.ensures behind method.1 }
