use Rattle.std.proofs.Common.{◌∙◌, ap, to_z, of_z, w32}
use Rattle.x509_c.proofs.Codes.{code_again}
use Rattle.x509_c.proofs.peer.x509_certificate_matches_name.Goals as goal

pub returns : goal.returns
returns c = (
  c.certificate_matches_name.result,
  ap (λ code. to_z w32 (of_z w32 code)) c.code.ensures ∙ code_again c.certificate_matches_name.result,
  (c.certificate_matches_name.ensures.told, c.certificate_matches_name.ensures.memory),
)
