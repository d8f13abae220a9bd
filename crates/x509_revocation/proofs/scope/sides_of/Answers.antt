use Rattle.std.proofs.Common.{refl}
use Rattle.x509_path.proofs.Lent as certificates
use Rattle.x509_revocation.proofs.Parts.{issuer_spells}
use Rattle.x509_revocation.proofs.scope.sides_of.Goals as goal

pub returns : goal.returns
returns c = λ certificate crl lends spells.
    let issuer = certificates.issuer_spells certificate c.args.certificate.now.bytes.now lends c.issuer-issuer.result.now (c.issuer-issuer.ensures certificate lends) in
    let own = issuer_spells crl c.args.crl.now.bytes.now spells c.issuer-own.result.now (c.issuer-own.ensures crl spells) in
    record {
      issuer = issuer;
      own = own;
      is_issuers = c.in_ok-is_issuers.ensures crl.tbs_cert_list.issuer certificate.tbs_certificate.issuer own issuer;
      list = refl;
    }
