-- CertificateIssuer: list GeneralName (RFC 5280 5.3.3)
use Rattle.std.specs.Prelude.{List, refl}
use Rattle.x509_der.specs.declared.tag.Tag.TheVariants.{Sequence}
use Rattle.x509_der.specs.Form.{Form}
use Rattle.x509_der.specs.Round.{Round, rounded}
use Rattle.x509_ext.specs.GeneralName.{general_names}
use Rattle.x509_ext.specs.declared.pkix.name.general_name.GeneralName.{GeneralName}
use Rattle.x509_ext.specs.declared.pkix.certificate_issuer.CertificateIssuer.{CertificateIssuer}

abbrev pub certificate_issuer_round : Round CertificateIssuer (List GeneralName)
certificate_issuer_round = record { to = λ issuer. issuer.0; from = λ names. record { 0 = names }; back = λ issuer. refl; there = λ names. refl }

abbrev pub certificate_issuer : Form CertificateIssuer
certificate_issuer = rounded certificate_issuer_round Sequence general_names
