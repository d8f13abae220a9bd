use Rattle.std.proofs.Common.{◌≡◌, false, true, sym, ◌∙◌}
use Rattle.x509_der.specs.ObjectIdentifier.{arcs_of, is_object_identifier}
use Rattle.x509_der.specs.ArcLaws.{content_of-arcs_of, content_of-passes}
use Rattle.x509_der.proofs.oid.identifier.ObjectIdentifier.from_bytes.Goals as goal

pub returns-in-Some-clause-ok : goal.returns-in-Some-clause-ok
returns-in-Some-clause-ok c =
    let made = content_of-arcs_of c.args.content.now c.in-Some.ensures.content in
    (arcs_of c.args.content.now, made.0, sym made.1, c.in-Some.ensures.value)

pub returns-then-is_content-clause-ok : goal.returns-then-is_content-clause-ok
returns-then-is_content-clause-ok c =
    let passes : is_object_identifier c.args.content.now ≡ true = sym c.is_content.ensures ∙ c.if-is_content.true in
    let made = content_of-arcs_of c.args.content.now passes in
    (arcs_of c.args.content.now, made.0, sym made.1, c.from_checked.ensures)

pub returns-else-is_content-clause-value : goal.returns-else-is_content-clause-value
returns-else-is_content-clause-value c = λ arcs h is.
    let fails : is_object_identifier c.args.content.now ≡ false = sym c.is_content.ensures ∙ c.if-is_content.false in
    let passes : is_object_identifier c.args.content.now ≡ true = rw is (content_of-passes arcs h) in
    absurd (cc)
