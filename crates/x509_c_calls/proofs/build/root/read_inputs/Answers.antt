use Rattle.std.proofs.Common.{inr}
use Rattle.std.proofs.lemmas.Result.{err_from_is_err_and}
use Rattle.x509_c_calls.proofs.Exits.{mapped}
use Rattle.x509_c_calls.proofs.build.root.read_inputs.Goals as goal

pub returns-in_err-part : goal.returns-in_err-part
returns-in_err-part c =
    let p = err_from_is_err_and c.from_residual-in_err-part.result c.from_residual-in_err-part.ensures.1 in
    rw (p.1, p.2) (mapped (λ r. inr r) c.in_err-part.ensures)
