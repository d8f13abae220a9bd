use Rattle.std.proofs.Common.{◌∙◌, ap, to_z, of_z, w32}
use Rattle.x509_c.proofs.Codes.{code_again}
use Rattle.x509_c.proofs.request.x509_request_view.Goals as goal

pub returns : goal.returns
returns c = (
  c.request_view.result,
  ap (λ code. to_z w32 (of_z w32 code)) c.code.ensures ∙ code_again c.request_view.result,
  (c.request_view.ensures.read, c.request_view.ensures.memory),
)
