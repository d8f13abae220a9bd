use Rattle.std.proofs.Common.{◌∙◌, ap, to_z, of_z, w32}
use Rattle.x509_c.proofs.Codes.{code_again}
use Rattle.x509_c.proofs.list.x509_crl_view.Goals as goal

pub returns : goal.returns
returns c = (
  c.crl_view.result,
  ap (λ code. to_z w32 (of_z w32 code)) c.code.ensures ∙ code_again c.crl_view.result,
  (c.crl_view.ensures.read, c.crl_view.ensures.memory),
)
