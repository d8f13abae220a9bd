use Rattle.std.proofs.Common.{◌∙◌}
use Rattle.x509_c_calls.proofs.Fields.{laid_out, critical_field}
use Rattle.x509_c_calls.proofs.Octets.{is_octets, is_oid, is_sequence}
use Rattle.x509_c_calls.proofs.payloads.extension.ExtensionEntryView.view.Goals as goal
use Rattle.x509_ext.specs.Extension.{extension}

pub returns : goal.returns
returns c = λ behind e.
    let it = c.args.value.now in
    let inside = c.enter.ensures.stands 48 (extension.content it) behind is_sequence e in
    let oid = c.step_content-oid.ensures.stands 6 it.extn_id _ is_oid (inside.1 ∙ laid_out it behind) in
    let critical = c.step.ensures.stands _ _ (critical_field it.critical) oid.1 in
    let value = c.enter-2.ensures.stands 4 it.extn_value behind is_octets critical.1 in
    record { oid = oid.0; critical = c.flag.ensures; value = value.0 }
