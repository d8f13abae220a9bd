use Rattle.std.proofs.Common.{◌++◌, ◌∙◌, refl, append_assoc}
use Rattle.x509_base.specs.AlgorithmIdentifier.{algorithm_identifier, algorithm_identifier_fields}
use Rattle.x509_c_calls.proofs.KeyTables.{named_at, unnamed_at}
use Rattle.x509_c_calls.proofs.Octets.{is_oid, is_sequence}
use Rattle.x509_c_calls.proofs.key.key.curve_at.Goals as goal
use Rattle.x509_c_calls.specs.Algorithms.{parameters_text}
use Rattle.x509_der.specs.Form.{spelling}
use Rattle.x509_der.specs.Frames.{fields_octets}
use Rattle.x509_der.specs.ObjectIdentifierForm.{object_identifier}

pub returns-then-not-names_curve : goal.returns-then-not-names_curve
returns-then-not-names_curve c = λ behind e. unnamed_at c.args.algorithm.now _ _ _ c.names_curve.ensures c.if-not-names_curve.true

pub returns : goal.returns
unfolding fields_octets algorithm_identifier_fields
returns c = λ behind e.
    let it = c.args.algorithm.now in
    let inside = c.enter.ensures.stands 48 (algorithm_identifier.content it) behind is_sequence e in
    let oid = c.step.ensures.stands (spelling object_identifier it.oid) (parameters_text it ++ behind) (6, it.oid, is_oid, refl) (inside.1 ∙ append_assoc (spelling object_identifier it.oid) (parameters_text it) behind) in
    named_at behind _ _ _ c.content_at.ensures.stands it _ c.names_curve.ensures c.if-not-names_curve.false oid.1
