use Rattle.x509_path.proofs.Lent.{issuer_spells}
use Rattle.x509_revocation.proofs.Named.{named}
use Rattle.x509_revocation.proofs.issuers.names_issuer.Goals as goal

pub returns : goal.returns
returns c = λ certificate lends.
    let name = issuer_spells certificate c.args.certificate.now.bytes.now lends c.issuer.result.now (c.issuer.ensures certificate lends) in
    let read = c.in-Ok.ensures.found in
    named certificate.tbs_certificate.issuer c.args.octets.now read.0 read.1 ((c.has_directory_name.ensures read.0 read.1).0 c.if-not-has_directory_name.false) c.in_ok-is_named.is_named (c.in_ok-is_named.ensures read.0 certificate.tbs_certificate.issuer read.1 name)
