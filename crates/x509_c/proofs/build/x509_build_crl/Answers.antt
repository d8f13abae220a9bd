use Rattle.std.proofs.Common.{◌∙◌, ap, to_z, of_z, w32}
use Rattle.x509_c.proofs.Codes.{code_again}
use Rattle.x509_c.proofs.build.x509_build_crl.Goals as goal

pub returns : goal.returns
returns c =
    let filled = rw c.where_told-next_update.ensures at c.build_crl.ensures in
    (c.build_crl.result, ap (λ code. to_z w32 (of_z w32 code)) c.code.ensures ∙ code_again c.build_crl.result, filled)
