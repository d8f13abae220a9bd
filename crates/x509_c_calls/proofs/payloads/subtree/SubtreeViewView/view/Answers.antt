use Rattle.std.proofs.Common.{◌++◌, refl, ◌∙◌, append_assoc}
use Rattle.x509_c_calls.proofs.Octets.{is_sequence}
use Rattle.x509_c_calls.proofs.payloads.subtree.SubtreeViewView.view.Goals as goal
use Rattle.x509_c_calls.specs.Subtrees.{depth_text}
use Rattle.x509_der.specs.Frames.{fields_octets}
use Rattle.x509_der.specs.Form.{spelling}
use Rattle.x509_ext.specs.GeneralName.{general_name}
use Rattle.x509_ext.specs.GeneralSubtree.{general_subtree, general_subtree_fields}

pub returns : goal.returns
unfolding fields_octets general_subtree_fields
returns c = λ behind e.
    let it = c.args.value.now in
    let inside = c.enter.ensures.stands 48 (general_subtree.content it) behind is_sequence e in
    record { base = c.view.ensures (depth_text it ++ behind) (inside.1 ∙ append_assoc (spelling general_name it.base) (depth_text it) behind); minimum = refl; maximum = c.optional_number-has_maximum.ensures }
