-- What is to be verified of a certificate, and where it stands in its bytes (RFC 5280 4.1.1).
use Rattle.std.specs.Prelude.{◌≡◌, ℕ, List, []}
use Rattle.x509_base.specs.AlgorithmIdentifier.{algorithm_identifier}
use Rattle.x509_c_calls.specs.View.{behind_part}
use Rattle.x509_c_calls.specs.declared.certificate.signature.SignatureView.{SignatureView}
use Rattle.x509_c_calls.specs.Place.{IsAt}
use Rattle.x509_cert.specs.declared.certificate.certificate.CertificateInner.{CertificateInner}
use Rattle.x509_cert.specs.Signed.{IsSignedPart}
use Rattle.x509_der.specs.Form.{spelling}
use Rattle.x509_prim.specs.BitString.{bit_string}

-- what the view says of a certificate in these bytes: the bytes that its signature is over, by which algorithm it is one, and its bits
pub record IsSignature {P : Type 0} (bytes : List ℕ) (certificate : CertificateInner P) (view : SignatureView) : Type 0 where
  pub signed_part : (signed : List ℕ) × IsSignedPart bytes signed × IsAt signed (behind_part certificate) bytes view.signed_part
  pub algorithm : IsAt (spelling algorithm_identifier certificate.signature_algorithm) (spelling bit_string certificate.signature) bytes view.algorithm
  pub bits : IsAt certificate.signature.octets [] bytes view.bits
  pub unused_bits : view.unused_bits ≡ certificate.signature.unused
