use Rattle.std.proofs.Common.{◌++◌, ◌∙◌}
use Rattle.x509_c_calls.proofs.Names.{other_laid_out}
use Rattle.x509_c_calls.proofs.Octets.{is_explicit_0, is_oid}
use Rattle.x509_c_calls.proofs.payloads.general_name.other_at.Goals as goal
use Rattle.x509_der.specs.Any.{any}
use Rattle.x509_der.specs.Frames.{explicit}
use Rattle.x509_der.specs.Form.{spelling}

pub returns-in-OtherName : goal.returns-in-OtherName
returns-in-OtherName c = λ behind e.
    let it = c.in-OtherName.field-0 in
    let here = rw c.in-OtherName.is at e in
    let oid = c.step_content-type_id.ensures.stands 6 it.type_id (spelling (explicit 0 any) it.value ++ behind) is_oid (here ∙ other_laid_out it behind) in
    rw c.in-OtherName.is (oid.0, (c.enter.ensures.stands 160 (spelling any it.value) behind is_explicit_0 oid.1).0)
