use Rattle.std.proofs.Common.{ap}
use Rattle.std.proofs.lemmas.Result.{err_from_is_err_and}
use Rattle.x509_path_steps.proofs.Refusals.{long_policies}
use Rattle.x509_path_steps.proofs.trusted_buf.held.Goals as goal
use Rattle.x509_path_steps.specs.Inputs.{Trust}

pub returns-in_err-encoded_option-2 : goal.returns-in_err-encoded_option-2
returns-in_err-encoded_option-2 c = λ trust is.
    let p = err_from_is_err_and c.from_residual-in_err-encoded_option-2.result c.from_residual-in_err-encoded_option-2.ensures.1 in
    rw (p.1, p.2) (long_policies trust c.args.policies.now _ (ap (λ (t : Trust). t.policies) is) c.in_err-encoded_option-2.ensures)
