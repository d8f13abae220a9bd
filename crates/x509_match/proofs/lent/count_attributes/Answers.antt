use Rattle.std.proofs.Common.{◌≡◌, ◌<◌, length, ap, sym, subst, arith}
use Rattle.std.proofs.lemmas.Bool.Decides.{nat_tests}
use Rattle.x509_der.specs.Form.{spelling}
use Rattle.x509_der.specs.List.{joined}
use Rattle.x509_der.specs.TagLaws.{tag_is_identifier}
use Rattle.x509_der.specs.declared.tag.Tag.TheVariants.{Sequence}
use Rattle.x509_match.proofs.Fronts.{attributes_cases, attributes_end}
use Rattle.x509_match.specs.Encoded.{AreAttributes}
use Rattle.x509_name.specs.TypeAndValue.{attribute_type_and_value}
use Rattle.x509_match.proofs.lent.count_attributes.Goals as goal

pub loop-rest-preserved : goal.loop-rest-preserved
loop-rest-preserved c =
    let more : 0 < length c.loop-rest.rest.now = grind (arith, nat_tests) in record {
      same = λ xs h.
          let k = c.loop-rest.invariant.same xs h in
          let s = attributes_cases _ k.0 k.1 more in
          let f = c.front_content.ensures.front 48 (attribute_type_and_value.content s.0) (joined (spelling attribute_type_and_value) s.1) (tag_is_identifier Sequence) s.4 in
          (s.1, subst (λ z. AreAttributes z s.1) (sym f.1) s.5, omega (arith, k.2, ap length s.2));
      within = omega (arith, c.front_content.ensures.shorter more, c.loop-rest.invariant.within);
    }

pub returns-clause-same : goal.returns-clause-same
returns-clause-same c = λ xs h.
    let none : length c.loop-rest.rest.now ≡ 0 = grind (arith, nat_tests) in
    let k = c.loop-rest.invariant.same xs h in
    omega (arith, k.2, ap length (attributes_end _ k.0 k.1 none))
