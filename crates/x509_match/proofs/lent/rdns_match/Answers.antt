use Rattle.std.proofs.Common.{refl, sym, ◌∙◌, arith}
use Rattle.std.proofs.lemmas.Bool.Decides.{nat_tests}
use Rattle.std.specs.Cmp.Lexicographic.{bytes_decides}
use Rattle.x509_match.proofs.Fronts.{same_octets_match, set_attributes}
use Rattle.x509_match.proofs.Partners.{lengths_apart}
use Rattle.x509_match.proofs.lent.rdns_match.Goals as goal

pub returns-then-count-count_attributes-clause-same : goal.returns-then-count-count_attributes-clause-same
returns-then-count-count_attributes-clause-same c = λ xs ys gx gy p q.
    let left = c.count_attributes-count.ensures.same xs (set_attributes _ xs gx p) in
    let right = c.count_attributes.ensures.same ys (set_attributes _ ys gy q) in
    lengths_apart xs ys (λ len. c.if-count-count_attributes.true (left ∙ len ∙ sym right))

pub returns-then-count-gt-MAX_IN_PLACE-clause-plain : goal.returns-then-count-gt-MAX_IN_PLACE-clause-plain
returns-then-count-gt-MAX_IN_PLACE-clause-plain c = λ xs ys gx gy p q plain others.
    let left = c.count_attributes-count.ensures.same xs (set_attributes _ xs gx p) in
    let many = c.if-count-gt-MAX_IN_PLACE.true in
    absurd (grind (arith, nat_tests, plain.0))

pub returns-clause-same : goal.returns-clause-same
returns-clause-same c = λ xs ys gx gy p q.
    let left = c.count_attributes-count.ensures.same xs (set_attributes _ xs gx p) in
    let right = c.count_attributes.ensures.same ys (set_attributes _ ys gy q) in
    c.counts_match.ensures.same xs ys (set_attributes _ xs gx p) (set_attributes _ ys gy q) (sym left ∙ c.if-count-count_attributes.false ∙ right)

pub returns-clause-plain : goal.returns-clause-plain
returns-clause-plain c = λ xs ys gx gy p q plain others. c.counts_match.ensures.plain xs ys (set_attributes _ xs gx p) (set_attributes _ ys gy q) plain.1 others.1

pub returns-then-eq-clause-same : goal.returns-then-eq-clause-same
returns-then-eq-clause-same c = λ xs ys gx gy p q.
    let same = (bytes_decides c.args.a.now c.args.b.now).0 (sym c.eq.ensures ∙ c.if-eq.true) in
    (λ t. same_octets_match c.args.a.now xs ys gx gy p (same ∙ q), λ m. refl)
