use Rattle.std.proofs.Common.{◌++◌, [], sym, ap, ◌∙◌}
use Rattle.std.proofs.lemmas.List.{append-nil}
use Rattle.x509_c_calls.proofs.Octets.{is_sequence}
use Rattle.x509_c_calls.proofs.RsaKeys.{is_integer, laid_out, modulus_fits}
use Rattle.x509_c_calls.proofs.key.rsa.rsa_key.Goals as goal
use Rattle.x509_c_calls.specs.Calls.{Reads}
use Rattle.x509_der.specs.Form.{spelling}
use Rattle.x509_prim.specs.Integer.{unsigned_integer}
use Rattle.x509_text.specs.Algorithms.{bit_count}

pub number_bits-requires : goal.number_bits-requires
number_bits-requires c = rw c.as_bytes.ensures.octets (modulus_fits c.in-Ok.key _ c.in-Ok.ensures.found)

pub returns-in-Ok : goal.returns-in-Ok
unfolding Reads
returns-in-Ok c =
    let it = c.in-Ok.key in
    let spells = c.in-Ok.ensures.found in
    let modulus_text = spelling unsigned_integer it.modulus in
    let exponent_text = spelling unsigned_integer it.public_exponent in
    let inside = c.enter.ensures.stands 48 (modulus_text ++ exponent_text) [] is_sequence (laid_out it _ spells ∙ sym (append-nil _)) in
    let modulus = c.step_content-modulus.ensures.stands 2 it.modulus exponent_text is_integer (inside.1 ∙ append-nil (modulus_text ++ exponent_text)) in
    let exponent = c.step_content-public_exponent.ensures.stands 2 it.public_exponent [] is_integer (modulus.1 ∙ sym (append-nil exponent_text)) in
    (it, spells, record { modulus = modulus.0; public_exponent = exponent.0; modulus_bits = c.number_bits.ensures ∙ ap bit_count c.as_bytes.ensures.octets })
