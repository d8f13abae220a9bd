-- SubjectKeyIdentifier: OCTET STRING (RFC 5280 4.2.1.2)
use Rattle.std.specs.Prelude.{ℕ, List, refl}
use Rattle.x509_der.specs.declared.tag.Tag.TheVariants as tags
use Rattle.x509_der.specs.Form.{Form}
use Rattle.x509_der.specs.Round.{Round, rounded}
use Rattle.x509_prim.specs.OctetString.{octet_string}
use Rattle.x509_ext.specs.declared.pkix.subject_key_identifier.SubjectKeyIdentifier.{SubjectKeyIdentifier}

abbrev pub subject_key_identifier_round : Round SubjectKeyIdentifier (List ℕ)
subject_key_identifier_round = record { to = λ identifier. identifier.0; from = λ octets. record { 0 = octets }; back = λ identifier. refl; there = λ octets. refl }

abbrev pub subject_key_identifier : Form SubjectKeyIdentifier
subject_key_identifier = rounded subject_key_identifier_round tags.OctetString octet_string
