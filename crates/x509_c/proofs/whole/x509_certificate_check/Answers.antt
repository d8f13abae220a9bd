use Rattle.std.proofs.Common.{◌∙◌, ap, to_z, of_z, w32}
use Rattle.x509_c.proofs.Codes.{code_again}
use Rattle.x509_c.proofs.whole.x509_certificate_check.Goals as goal
use Rattle.x509_c_calls.proofs.Refusals.{never_memory}

pub returns : goal.returns
returns c =
    (c.check.result, ap (λ code. to_z w32 (of_z w32 code)) c.code.ensures ∙ code_again c.check.result, (c.check.ensures.read, λ memory. never_memory (c.check.ensures.memory memory)))
