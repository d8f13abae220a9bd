use Rattle.std.proofs.Common.{◌≤◌, ◌++◌, [], length, subst, sym}
use Rattle.x509_der.specs.Any.{any}
use Rattle.x509_der.specs.Element.{element, limit}
use Rattle.x509_der.specs.Form.{spelling}
use Rattle.x509_der.specs.Frames.{optional_octets}
use Rattle.x509_path_steps.proofs.Sequences.{oid_identifier, sequence}
use Rattle.x509_path_steps.proofs.WorkingKeys.{key_content, key_octets, within_key}
use Rattle.x509_path_steps.proofs.above.algorithm_of.Goals as goal
use Rattle.x509_prim.specs.BitString.{bit_string}

pub returns : goal.returns
returns c = λ k spells.
    let whole = c.content_of.ensures 48 (key_content k) [] sequence (key_octets k c.args.key.now spells) in
    let algorithm = c.content_of-2.ensures 48 (element 6 k.algorithm.oid ++ optional_octets (spelling any) k.algorithm.parameters) (spelling bit_string k.subject_public_key) sequence whole in
    let parts = c.first_content.ensures 6 k.algorithm.oid (optional_octets (spelling any) k.algorithm.parameters) oid_identifier algorithm in
    (parts.0, c.given.ensures k.algorithm.parameters (subst (λ o. length o ≤ limit) (sym parts.1) (within_key k c.args.key.now spells)) parts.1)
