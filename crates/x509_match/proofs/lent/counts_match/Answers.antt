use Rattle.std.proofs.Common.{◌≡◌, ◌<◌, ◌++◌, [], ◌∷◌, length, refl, sym, ◌∙◌, arith}
use Rattle.std.proofs.lemmas.Bool.Decides.{nat_tests}
use Rattle.std.proofs.lemmas.List.Elements.{All-push}
use Rattle.x509_der.specs.Form.{spelling}
use Rattle.x509_der.specs.List.{joined}
use Rattle.x509_match.proofs.Fronts.{has_front, behind_front, plain_first, attributes_end, lends_some, lends_none}
use Rattle.x509_match.proofs.Partners.{HasPartners, one_more_front, partners_of_all, without_partners}
use Rattle.x509_name.specs.TypeAndValue.{attribute_type_and_value}
use Rattle.x509_match.proofs.lent.counts_match.Goals as goal

pub returns-in_default-clause-same : goal.returns-in_default-clause-same
returns-in_default-clause-same c = λ xs ys p q len.
    let more : 0 < length c.loop-rest.rest.now = grind (arith, nat_tests) in
    let k = c.loop-rest.invariant.same xs ys p q in
    let s = has_front _ k.1 k.3 more in
    let f = c.next_attribute.ensures.front s.first (joined (spelling attribute_type_and_value) s.behind) s.good s.octets_are in
    absurd (lends_none _ s.first c.in_default.is f.0)

pub returns-in_err-left-clause-plain : goal.returns-in_err-left-clause-plain
returns-in_err-left-clause-plain c = λ xs ys p q plain others.
    let more : 0 < length c.loop-rest.rest.now = grind (arith, nat_tests) in
    let k = c.loop-rest.invariant.plain xs p plain in
    let s = has_front _ k.0 k.1 more in
    let f = c.next_attribute.ensures.front s.first (joined (spelling attribute_type_and_value) s.behind) s.good s.octets_are in
    let lent = lends_some _ c.in-Some.attribute s.first c.in-Some.is f.0 in
    absurd (let e = c.in_err-left.ensures.plain s.first xs lent p (plain_first _ k.0 k.1 more k.2).0 plain in cc)

pub returns-in_err-right-clause-plain : goal.returns-in_err-right-clause-plain
returns-in_err-right-clause-plain c = λ xs ys p q plain others.
    let more : 0 < length c.loop-rest.rest.now = grind (arith, nat_tests) in
    let k = c.loop-rest.invariant.plain xs p plain in
    let s = has_front _ k.0 k.1 more in
    let f = c.next_attribute.ensures.front s.first (joined (spelling attribute_type_and_value) s.behind) s.good s.octets_are in
    let lent = lends_some _ c.in-Some.attribute s.first c.in-Some.is f.0 in
    absurd (let e = c.in_err-right.ensures.plain s.first ys lent q (plain_first _ k.0 k.1 more k.2).0 others in cc)

pub returns-then-left-right-clause-same : goal.returns-then-left-right-clause-same
returns-then-left-right-clause-same c = λ xs ys p q len.
    let more : 0 < length c.loop-rest.rest.now = grind (arith, nat_tests) in
    let k = c.loop-rest.invariant.same xs ys p q in
    let s = has_front _ k.1 k.3 more in
    let f = c.next_attribute.ensures.front s.first (joined (spelling attribute_type_and_value) s.behind) s.good s.octets_are in
    let lent = lends_some _ c.in-Some.attribute s.first c.in-Some.is f.0 in
    let left = c.in_ok-left.ensures.same s.first xs lent p in
    let right = c.in_ok-right.ensures.same s.first ys lent q in
    without_partners xs ys s.first (λ e. c.if-left-right.true (left ∙ e ∙ sym right))

pub loop-rest-preserved : goal.loop-rest-preserved
loop-rest-preserved c =
    let more : 0 < length c.loop-rest.rest.now = grind (arith, nat_tests) in record {
      same = λ xs ys p q.
          let k = c.loop-rest.invariant.same xs ys p q in
          let s = has_front _ k.1 k.3 more in
          let f = c.next_attribute.ensures.front s.first (joined (spelling attribute_type_and_value) s.behind) s.good s.octets_are in
          let lent = lends_some _ c.in-Some.attribute s.first c.in-Some.is f.0 in
          let left = c.in_ok-left.ensures.same s.first xs lent p in
          let right = c.in_ok-right.ensures.same s.first ys lent q in (
            k.0 ++ s.first ∷ [],
            s.behind,
            one_more_front xs ys k.0 s.behind k.1 s.first k.2 s.are,
            behind_front _ _ k.1 k.3 more f.1,
            All-push (HasPartners xs ys) k.0 s.first k.4 (sym left ∙ c.if-left-right.false ∙ right),
          );
      plain = λ xs p plain.
          let k = c.loop-rest.invariant.plain xs p plain in
          let s = has_front _ k.0 k.1 more in
          let f = c.next_attribute.ensures.front s.first (joined (spelling attribute_type_and_value) s.behind) s.good s.octets_are in
          (s.behind, behind_front _ _ k.0 k.1 more f.1, (plain_first _ k.0 k.1 more k.2).1);
    }

pub returns-clause-same : goal.returns-clause-same
returns-clause-same c = λ xs ys p q len.
    let none : length c.loop-rest.rest.now ≡ 0 = grind (arith, nat_tests) in
    let k = c.loop-rest.invariant.same xs ys p q in
    (λ t. partners_of_all xs ys k.0 k.1 k.2 (attributes_end _ k.1 k.3 none) len k.4, λ p. refl)
