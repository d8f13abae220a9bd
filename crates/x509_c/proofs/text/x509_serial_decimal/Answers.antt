use Rattle.std.proofs.Common.{◌∙◌, ap, to_z, of_z, w32}
use Rattle.x509_c.proofs.Codes.{code_again}
use Rattle.x509_c.proofs.text.x509_serial_decimal.Goals as goal

pub returns : goal.returns
returns c = (
  c.decimal_text.result,
  ap (λ code. to_z w32 (of_z w32 code)) c.code.ensures ∙ code_again c.decimal_text.result,
  (c.decimal_text.ensures.filled, c.decimal_text.ensures.memory),
)
