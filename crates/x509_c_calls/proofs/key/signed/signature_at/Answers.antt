use Rattle.std.proofs.Common.{◌++◌, ◌∙◌, refl}
use Rattle.x509_base.specs.AlgorithmIdentifier.{algorithm_identifier}
use Rattle.x509_c_calls.proofs.KeyOctets.{is_bits}
use Rattle.x509_c_calls.proofs.key.signed.signature_at.Goals as goal
use Rattle.x509_c_calls.proofs.Octets.{is_sequence}
use Rattle.x509_der.specs.Element.{element}
use Rattle.x509_der.specs.Form.{spelling}
use Rattle.x509_prim.specs.BitString.{bit_string}

pub returns : goal.returns
returns c = λ part means s behind e.
    let signed = c.step-signed_part.ensures.stands (element 48 part) (spelling algorithm_identifier means ++ (spelling bit_string s ++ behind)) (48, part, is_sequence, refl) e in
    let algorithm = c.step-algorithm.ensures.stands (spelling algorithm_identifier means) (spelling bit_string s ++ behind) (48, algorithm_identifier.content means, is_sequence, refl) signed.1 in
    record { signed_part = signed.0; algorithm = algorithm.0; bits = c.bits_at.ensures 3 s.unused s.octets behind is_bits algorithm.1; unused_bits = c.unused_at.ensures 3 s.unused s.octets behind is_bits algorithm.1 }
