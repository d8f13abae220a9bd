use Rattle.std.proofs.Common.{arith, refl, true}
use Rattle.x509_name.specs.Attributes.{attribute_text}
use Rattle.x509_name.proofs.Joins.{written_first, written_next}
use Rattle.x509_name.specs.declared.attr.type_and_value.AttributeTypeAndValue.{AttributeTypeAndValue}
use Rattle.std.specs.Prelude.{ℕ, List}
use Rattle.x509_name.proofs.name.text.write_rdn.Goals as goal
use Rattle.x509_name.proofs.name.text.write_rdn.Goals.{then-i-gt0+in_ok-write_str, else-i-gt0}

abbrev text_of : AttributeTypeAndValue → List ℕ
text_of a = attribute_text a.oid a.value

pub loop-i-preserved : goal.loop-i-preserved
loop-i-preserved g c = λ plain.
    let now = c.loop-i.invariant plain in
    elim c.if-i-gt0.branch [
      | then-i-gt0+in_ok-write_str w ↦
          let mark = w.in_ok-write_str.ensures.writes now.plain (refl {a = true}) in
          written_next _ 43 text_of c.args.attributes.now c.loop-i.i c.index-attributes-i.result (omega arith) c.index-attributes-i.is _ _ _ now w.if-i-gt0.true _ mark (rw w.f-is at c.in_ok-write_attribute.ensures mark.plain (refl {a = true}))
      | else-i-gt0 w ↦
          written_first _ 43 text_of c.args.attributes.now c.loop-i.i c.index-attributes-i.result (omega arith) c.index-attributes-i.is _ _ _ now (omega arith) (rw w.f-is at c.in_ok-write_attribute.ensures now.plain (refl {a = true}))
    ]
