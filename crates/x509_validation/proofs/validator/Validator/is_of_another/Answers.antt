use Rattle.x509_path.proofs.Lent.{differ, issuer_spells}
use Rattle.x509_validation.proofs.validator.Validator.is_of_another.Goals as goal

pub returns : goal.returns
returns g c = λ certificate above lends over.
    let issuer = issuer_spells certificate c.args.certificate.now.bytes.now lends c.issuer.result.now (c.issuer.ensures certificate lends) in
    differ c.in_ok-is_same.is_same (c.in_ok-is_same.ensures certificate.tbs_certificate.issuer above.name issuer over.0)
