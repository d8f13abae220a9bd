use Rattle.std.proofs.Common.{refl, sym, ◌∙◌}
use Rattle.std.proofs.lemmas.List.{append-nil}
use Rattle.x509_base.specs.AlgorithmIdentifier.{algorithm_identifier}
use Rattle.x509_c_calls.proofs.Bits.{is_bits, is_signed}
use Rattle.x509_c_calls.proofs.Parts.{is_sequence, part_text, outside, inside}
use Rattle.x509_c_calls.proofs.certificate.signature.signature_of.Goals as goal

pub returns : goal.returns
returns c = λ value spells.
    let first = c.enter.ensures.stands 48 _ _ is_sequence (outside _ value _ spells) in
    let signed = c.step-signed_part.ensures.stands _ _ (48, part_text _ value _ spells, is_sequence, refl) (first.1 ∙ inside _ value _ spells) in
    let algorithm = c.step-algorithm.ensures.stands _ _ (48, algorithm_identifier.content value.signature_algorithm, is_sequence, refl) signed.1 in
    let signature = algorithm.1 ∙ sym (append-nil _) in
    record {
      signed_part = (_, is_signed _ value _ spells, signed.0);
      algorithm = algorithm.0;
      bits = c.bits_at.ensures 3 _ _ _ is_bits signature;
      unused_bits = c.unused_at.ensures 3 _ _ _ is_bits signature;
    }
