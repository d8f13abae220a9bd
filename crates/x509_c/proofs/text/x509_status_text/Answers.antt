use Rattle.std.proofs.Common.{◌∙◌, ap, to_z, of_z, w32}
use Rattle.std.proofs.lemmas.Int.{to_z-of_z}
use Rattle.x509_c.proofs.Codes.{code_again}
use Rattle.x509_c.proofs.text.x509_status_text.Goals as goal

pub returns : goal.returns
returns c =
    let filled = rw (to_z-of_z w32 c.args.status c.ranges.status) at c.status_text.ensures.filled in
    (c.status_text.result, ap (λ code. to_z w32 (of_z w32 code)) c.code.ensures ∙ code_again c.status_text.result, (filled, c.status_text.ensures.memory))
