use Rattle.std.proofs.Common.{inl, subst}
use Rattle.x509_c_calls.proofs.Exits.{mapped}
use Rattle.x509_c_calls.proofs.Filled.{checked_as, refused_as, unrepeated_as}
use Rattle.x509_c_calls.proofs.Unrepeated.{request_built}
use Rattle.x509_c_calls.proofs.build.request.build_request.Goals as goal
use Rattle.x509_ext.specs.LookUp.{IsRepeated}

pub returns-in-Err : goal.returns-in-Err
returns-in-Err c = refused_as _ _ _ _ (mapped (λ r. inl r) c.in-Err.ensures)

pub returns-in-Ok-check_repeated : goal.returns-in-Ok-check_repeated
returns-in-Ok-check_repeated c =
    unrepeated_as _ _ (request_built _ _ _ _ _ c.in-Ok.ensures (subst (λ l. ¬ IsRepeated l) c.as_slice.ensures.value c.in-Ok-check_repeated.ensures.ok)) _ _ _ _ _ c.fill_part.ensures

pub returns-in-Err-check_repeated : goal.returns-in-Err-check_repeated
returns-in-Err-check_repeated c =
    checked_as _ _ _ _ _ (λ repeated. (c.in-Ok.inputs, c.in-Ok.ensures, subst IsRepeated c.as_slice.ensures.value repeated)) c.in-Err-check_repeated.ensures.err
