use Rattle.std.proofs.Common.{◌++◌, ◌∙◌, ap, refl, append_assoc}
use Rattle.x509_base.specs.AlgorithmIdentifier.{algorithm_identifier}
use Rattle.x509_base.specs.SubjectPublicKeyInfo.{subject_public_key_info, subject_public_key_info_fields}
use Rattle.x509_c_calls.proofs.KeyOctets.{is_bits}
use Rattle.x509_c_calls.specs.Keys.{bits_text}
use Rattle.x509_c_calls.specs.Kinds.{key_number}
use Rattle.x509_c_calls.proofs.key.key.view_of.Goals as goal
use Rattle.x509_c_calls.proofs.Octets.{is_sequence}
use Rattle.x509_der.specs.Frames.{fields_octets}
use Rattle.x509_der.specs.Form.{spelling}

pub returns : goal.returns
unfolding fields_octets subject_public_key_info_fields
returns c = λ behind e sized.
    let it = c.args.key.now in
    let inside = c.enter.ensures.stands 48 (subject_public_key_info.content it) behind is_sequence e in
    let laid_out = inside.1 ∙ append_assoc (spelling algorithm_identifier it.algorithm) (bits_text it) behind in
    let algorithm = c.view-algorithm.ensures (bits_text it ++ behind) laid_out in
    let passed = c.step.ensures.stands (spelling algorithm_identifier it.algorithm) (bits_text it ++ behind) (48, algorithm_identifier.content it.algorithm, is_sequence, refl) laid_out in
    record {
      kind = c.number.ensures ∙ ap key_number c.of.ensures;
      oid = algorithm.oid;
      parameters = algorithm.parameters;
      bits = c.bits_at.ensures 3 it.subject_public_key.unused it.subject_public_key.octets behind is_bits passed.1;
      unused_bits = c.from.ensures ∙ c.unused_bits.ensures.unused;
      curve = c.curve_at-curve.ensures (bits_text it ++ behind) laid_out;
      size = sized;
    }
