use Rattle.std.proofs.Common.{◌∙◌, [], append-nil, refl, sym}
use Rattle.x509_der.specs.Element.{element}
use Rattle.x509_path_steps.proofs.Sequences.{oid_identifier}
use Rattle.x509_path_steps.proofs.oids.pair_of.Goals as goal

pub returns : goal.returns
returns c = λ i s is.
    let first = c.first_content.ensures 6 i (element 6 s) oid_identifier is in
    let second = c.content_of.ensures 6 s [] oid_identifier (first.1 ∙ sym (append-nil (element 6 s))) in
    rw (first.0, second) refl
