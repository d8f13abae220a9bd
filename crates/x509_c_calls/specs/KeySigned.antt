-- What is to be verified of a signed value, by its places: that the bits are a signature of the signed part, by that algorithm (RFC 5280 5.1.1, RFC 2986 4.2).
use Rattle.std.specs.Prelude.{◌≡◌, ℕ, List, ◌++◌}
use Rattle.x509_base.specs.AlgorithmIdentifier.{algorithm_identifier}
use Rattle.x509_base.specs.declared.algorithm_identifier.AlgorithmIdentifier.{AlgorithmIdentifier}
use Rattle.x509_c_calls.specs.declared.certificate.signature.SignatureView.{SignatureView}
use Rattle.x509_c_calls.specs.Place.{IsAt}
use Rattle.x509_der.specs.Form.{spelling}
use Rattle.x509_prim.specs.BitString.{BitParts, bit_string}

-- what the view says of a part that is signed by that means, with that signature behind it, and behind that those others
pub record IsSigned (bytes part : List ℕ) (means : AlgorithmIdentifier) (signature : BitParts) (behind : List ℕ) (view : SignatureView) : Type 0 where
  pub signed_part : IsAt part (spelling algorithm_identifier means ++ (spelling bit_string signature ++ behind)) bytes view.signed_part
  pub algorithm : IsAt (spelling algorithm_identifier means) (spelling bit_string signature ++ behind) bytes view.algorithm
  pub bits : IsAt signature.octets behind bytes view.bits
  pub unused_bits : view.unused_bits ≡ signature.unused
