use Rattle.std.proofs.Common.{◌++◌, ◌∙◌}
use Rattle.x509_c_calls.proofs.Names.{party_laid_out}
use Rattle.x509_c_calls.proofs.Octets.{is_explicit_0, is_list_1}
use Rattle.x509_c_calls.proofs.Optional.{content_at}
use Rattle.x509_c_calls.proofs.payloads.general_name.party_at.Goals as goal
use Rattle.x509_der.specs.Frames.{explicit}
use Rattle.x509_der.specs.Form.{spelling}
use Rattle.x509_name.specs.DirectoryString.{directory_string}

pub returns-in-EdiPartyName : goal.returns-in-EdiPartyName
returns-in-EdiPartyName c = λ behind e.
    let it = c.in-EdiPartyName.party in
    let here = rw c.in-EdiPartyName.is at e in
    let name_text = spelling (explicit 1 directory_string) it.party_name in
    let assigner = content_at (explicit 0 directory_string) (λ v. is_explicit_0) it.name_assigner _ (name_text ++ behind) _ _ _ _ c.is_some.ensures (here ∙ party_laid_out it behind) c.step_optional_content-assigner.ensures.there c.step_optional_content-assigner.ensures.absent in
    let name = c.step_content.ensures.stands 161 (spelling directory_string it.party_name) behind is_list_1 assigner.1 in
    rw c.in-EdiPartyName.is (assigner.0, name.0)
