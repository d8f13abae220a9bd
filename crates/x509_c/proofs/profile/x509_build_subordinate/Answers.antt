use Rattle.std.proofs.Common.{◌∙◌, ap, to_z, of_z, w32}
use Rattle.x509_c.proofs.Codes.{code_again}
use Rattle.x509_c.proofs.profile.x509_build_subordinate.Goals as goal

pub returns : goal.returns
returns c =
    let filled = rw c.length_where_told.ensures at c.build_subordinate.ensures in
    (c.build_subordinate.result, ap (λ code. to_z w32 (of_z w32 code)) c.code.ensures ∙ code_again c.build_subordinate.result, filled)
