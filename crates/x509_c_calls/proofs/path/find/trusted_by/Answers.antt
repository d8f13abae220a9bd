use Rattle.std.proofs.Common.{inr, subst, sym}
use Rattle.x509_c_calls.proofs.path.find.trusted_by.Goals as goal
use Rattle.x509_path.specs.Lent.{Lends}
use Rattle.x509_path_steps.specs.Trusts.{RefusesSigned}

pub returns-in-Err-from_certificate : goal.returns-in-Err-from_certificate
returns-in-Err-from_certificate c =
    let found = c.in-Ok.ensures.found in
    let certificate = found.1.0 in
    let why = c.in-Err-from_certificate.ensures certificate (subst (λ octets. Lends octets certificate) (sym found.0) found.1.1) in
    inr (certificate, found.1.1, why.0, subst (RefusesSigned certificate.tbs_certificate) (sym c.kind-in-Err-from_certificate.ensures) why.1)
