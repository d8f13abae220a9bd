-- SignedCertificateTimestampList: OCTET STRING (RFC 6962 3.3), whose octets are to be those of `IsTimestampList`
use Rattle.std.specs.Prelude.{ℕ, List, refl}
use Rattle.x509_der.specs.declared.tag.Tag.TheVariants as tags
use Rattle.x509_der.specs.Form.{Form}
use Rattle.x509_der.specs.Round.{Round, rounded}
use Rattle.x509_prim.specs.OctetString.{octet_string}
use Rattle.x509_sct.specs.declared.list.SignedCertificateTimestampList.{SignedCertificateTimestampList}

abbrev pub signed_certificate_timestamp_list_round : Round SignedCertificateTimestampList (List ℕ)
signed_certificate_timestamp_list_round = record { to = λ list. list.0; from = λ octets. record { 0 = octets }; back = λ list. refl; there = λ octets. refl }

abbrev pub signed_certificate_timestamp_list : Form SignedCertificateTimestampList
signed_certificate_timestamp_list = rounded signed_certificate_timestamp_list_round tags.OctetString octet_string
