use Rattle.std.proofs.Common.{subst, sym}
use Rattle.x509_c_calls.proofs.RevocationCrls.{tells-signer}
use Rattle.x509_c_calls.proofs.revocation.may_sign_crls.Goals as goal
use Rattle.x509_c_calls.specs.Calls.{Reads}
use Rattle.x509_path.specs.Lent.{Lends}

pub returns-in-Ok-clause-read : goal.returns-in-Ok-clause-read
unfolding Reads
returns-in-Ok-clause-read c =
    let found = c.in-Ok.ensures.found in
    let lends = subst (λ octets. Lends octets found.1.0) (sym found.0) found.1.1 in
    (found.1.0, found.1.1, tells-signer found.1.0 c.may_sign_crls.result _ (c.may_sign_crls.ensures found.1.0 lends) c.flag.ensures)
