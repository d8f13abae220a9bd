use Rattle.std.proofs.Common.{◌≡◌, ◌<◌, length, map, ap, arith}
use Rattle.std.proofs.lemmas.Bool.Decides.{nat_tests}
use Rattle.x509_der.specs.Form.{spelling}
use Rattle.x509_der.specs.List.{joined}
use Rattle.x509_match.proofs.Fronts.{has_front, behind_front, plain_first, attributes_end, lends_some, lends_none}
use Rattle.x509_match.proofs.Partners.{tally_less}
use Rattle.x509_match.specs.Keys.{attribute_key}
use Rattle.x509_match.specs.Plain.{tally}
use Rattle.x509_name.specs.TypeAndValue.{attribute_type_and_value}
use Rattle.x509_match.proofs.lent.count_matching.Goals as goal

pub returns-in_default-clause-same : goal.returns-in_default-clause-same
returns-in_default-clause-same c = λ x ys p h.
    let more : 0 < length c.loop-rest.rest.now = grind (arith, nat_tests) in
    let k = c.loop-rest.invariant.same x ys p h in
    let s = has_front _ k.0 k.1 more in
    let f = c.next_attribute.ensures.front s.first (joined (spelling attribute_type_and_value) s.behind) s.good s.octets_are in
    absurd (lends_none _ s.first c.in_default.is f.0)

pub returns-in_err-matches-clause-plain : goal.returns-in_err-matches-clause-plain
returns-in_err-matches-clause-plain c = λ x ys p h own plain.
    let more : 0 < length c.loop-rest.rest.now = grind (arith, nat_tests) in
    let k = c.loop-rest.invariant.plain ys h plain in
    let s = has_front _ k.0 k.1 more in
    let f = c.next_attribute.ensures.front s.first (joined (spelling attribute_type_and_value) s.behind) s.good s.octets_are in
    let lent = lends_some _ c.in-Some.attribute s.first c.in-Some.is f.0 in
    absurd (let e = c.in_err-matches.ensures.plain x s.first p lent own (plain_first _ k.0 k.1 more k.2).0 in cc)

pub loop-rest-preserved : goal.loop-rest-preserved
loop-rest-preserved c =
    let more : 0 < length c.loop-rest.rest.now = grind (arith, nat_tests) in record {
      same = λ x ys p h.
          let k = c.loop-rest.invariant.same x ys p h in
          let s = has_front _ k.0 k.1 more in
          let f = c.next_attribute.ensures.front s.first (joined (spelling attribute_type_and_value) s.behind) s.good s.octets_are in
          let lent = lends_some _ c.in-Some.attribute s.first c.in-Some.is f.0 in
          let matches = c.in_ok-matches.ensures.same x s.first p lent in
          (s.behind, behind_front _ _ k.0 k.1 more f.1, tally_less (attribute_key x) s.first s.behind k.0 _ _ _ _ matches s.are c.with_one_more-count.ensures.value k.2);
      plain = λ ys h plain.
          let k = c.loop-rest.invariant.plain ys h plain in
          let s = has_front _ k.0 k.1 more in
          let f = c.next_attribute.ensures.front s.first (joined (spelling attribute_type_and_value) s.behind) s.good s.octets_are in
          (s.behind, behind_front _ _ k.0 k.1 more f.1, (plain_first _ k.0 k.1 more k.2).1);
      within = omega (arith, c.next_attribute.ensures.shorter more, c.loop-rest.invariant.within, c.with_one_more-count.ensures.at_most);
    }

pub returns-clause-same : goal.returns-clause-same
returns-clause-same c = λ x ys p h.
    let none : length c.loop-rest.rest.now ≡ 0 = grind (arith, nat_tests) in
    let k = c.loop-rest.invariant.same x ys p h in
    let empty = ap (λ z. tally (attribute_key x) (map attribute_key z)) (attributes_end _ k.0 k.1 none) in
    omega (arith, k.2, empty)
