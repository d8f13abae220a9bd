use Rattle.std.proofs.Common.{◌≡◌, ◌++◌, ◌∷◌, ◌∙◌, ℕ, List, [], refl, sym, ap, append_assoc}
use Rattle.std.proofs.Output.{has_written_append, has_written_of_eq}
use Rattle.hex.specs.Hex.{encode_lower}
use Rattle.x509_der.specs.Arcs.{dotted}
use Rattle.x509_der.specs.ObjectIdentifier.{arcs_of}
use Rattle.x509_name.specs.Attributes.{attribute_text, value_octets}
use Rattle.x509_name.specs.Escapes.{escaped}
use Rattle.x509_name.proofs.AttributeTexts.{named_text, unnamed_text, other_text}
use Rattle.x509_name.proofs.text.attributes.write_attribute.Goals as goal
use Rattle.x509_name.proofs.text.attributes.write_attribute.Goals.{in-Some+in_default-key_of, in_default}

pub returns-in-Some-key_of : goal.returns-in-Some-key_of
returns-in-Some-key_of g c = λ plain ok.
    let content = c.in-Some.ensures.some in
    let name = c.in_ok-write_str.ensures.writes plain refl in
    let sign = c.in_ok-write_str-2.ensures.writes name.plain refl in
    let value = c.write_escaped.ensures sign.plain ok in
    has_written_of_eq _ _ _ _ _
    (ap (λ (t : List ℕ). c.in-Some-key_of.key.name.now ++ 61 ∷ escaped t) content.0
    ∙ named_text c.args.oid.now c.args.value.now _ content.1 (sym c.in-Some-key_of.ensures))
    (has_written_append _ _ _ _ _ _ name (has_written_append _ _ _ _ _ _ sign value))

pub returns : goal.returns
returns g c = λ plain ok.
    let front = c.in_ok-write.ensures.writes plain refl in
    let value = c.write_element.ensures front.plain ok in
    let text : dotted (arcs_of c.args.oid.now) ++ 61 ∷ 35 ∷ encode_lower (value_octets c.args.value.now) ≡ attribute_text c.args.oid.now c.args.value.now =
    elim c.match-printed_content.branch [
      | in-Some+in_default-key_of w ↦ unnamed_text c.args.oid.now c.args.value.now (sym w.in_default-key_of.ensures)
      | in_default w ↦ other_text c.args.oid.now c.args.value.now w.in_default.ensures.none
    ] in
    has_written_of_eq _ _ _ _ _ (append_assoc (dotted (arcs_of c.args.oid.now)) (61 ∷ 35 ∷ []) (encode_lower (value_octets c.args.value.now)) ∙ text) (has_written_append _ _ _ _ _ _ front value)
