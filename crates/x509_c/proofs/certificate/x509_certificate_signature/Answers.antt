use Rattle.std.proofs.Common.{◌∙◌, ap, to_z, of_z, w32}
use Rattle.x509_c.proofs.Codes.{code_again}
use Rattle.x509_c.proofs.certificate.x509_certificate_signature.Goals as goal

pub returns : goal.returns
returns c = (
  c.certificate_signature.result,
  ap (λ code. to_z w32 (of_z w32 code)) c.code.ensures ∙ code_again c.certificate_signature.result,
  (c.certificate_signature.ensures.read, c.certificate_signature.ensures.memory),
)
