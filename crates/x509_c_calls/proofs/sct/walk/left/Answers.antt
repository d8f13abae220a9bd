use Rattle.std.proofs.Common.{[], ◌++◌, inl, inr, sym, ◌∙◌, arith}
use Rattle.x509_c_calls.proofs.Walks.{alone, no_octets, some_octets}
use Rattle.x509_c_calls.proofs.SctWalks.{no_refusal, same_piece, is_vector, same_vector, not_in_list, whole_list, list_fits, from_the_place, from_the_begin}
use Rattle.x509_c_calls.proofs.sct.walk.left.Goals as goal
use Rattle.x509_c_calls.proofs.sct.walk.left.Goals.{then-whole-octet-via-then-whole-octet, then-whole-octet-via-else-whole-octet+then-not-is_empty, then-at-begin-via-then-at-begin, then-at-begin-via-else-at-begin+then-at-input}

pub returns-in_default : goal.returns-in_default
returns-in_default c = λ left l. no_refusal _ _ _ l (rw c.in_default.ensures.err at c.in_default.ensures.exact)

pub returns-then-whole-octet : goal.returns-then-whole-octet
returns-then-whole-octet c = λ left l.
    let same = same_piece _ _ _ l _ c.in-Ok.ensures.exact in
    elim c.then-whole-octet.branch [
      | then-whole-octet-via-then-whole-octet w ↦ w.if-whole-octet.true (sym same.0 ∙ sym c.octet.ensures.octet)
      | then-whole-octet-via-else-whole-octet+then-not-is_empty w ↦ some_octets _ _ w.is_empty.ensures w.if-not-is_empty.true (sym same.2)
    ]

pub returns-in_default-take_vector : goal.returns-in_default-take_vector
returns-in_default-take_vector c = λ left l. c.in_default-take_vector.ensures (l.passed ++ left) [] l.short (is_vector _ _ _ l _ c.in-Ok.ensures.exact)

pub returns-then-not-is_empty-2 : goal.returns-then-not-is_empty-2
returns-then-not-is_empty-2 c = λ left l.
    let same = same_vector _ _ _ l _ _ _ c.in-Ok.ensures.exact c.in-Some.ensures.0 c.in-Some.ensures.1 in
    some_octets _ _ c.is_empty-2.ensures c.if-not-is_empty-2.true (sym same.1)

pub returns-then-at-eq0 : goal.returns-then-at-eq0
returns-then-at-eq0 c = from_the_begin _ _ _ (whole_list _ _ _ _ (alone _ _ _ _ _ c.in-Ok.ensures.exact (c.if-whole-octet.false ∙ c.octet.ensures.octet) (no_octets _ _ c.is_empty.ensures c.if-not-is_empty.false)) c.in-Some.ensures.1 (no_octets _ _ c.is_empty-2.ensures c.if-not-is_empty-2.false)) c.in-Some.ensures.0 c.if-at-eq0.true

pub overflow_sub-begin : goal.overflow_sub-begin
overflow_sub-begin c = omega (arith, list_fits _ _ (whole_list _ _ _ _ (alone _ _ _ _ _ c.in-Ok.ensures.exact (c.if-whole-octet.false ∙ c.octet.ensures.octet) (no_octets _ _ c.is_empty.ensures c.if-not-is_empty.false)) c.in-Some.ensures.1 (no_octets _ _ c.is_empty-2.ensures c.if-not-is_empty-2.false)))

pub returns-then-at-begin : goal.returns-then-at-begin
returns-then-at-begin c = λ left l.
    let same = same_vector _ _ _ l _ _ _ c.in-Ok.ensures.exact c.in-Some.ensures.0 c.in-Some.ensures.1 in
    elim c.then-at-begin.branch [
      | then-at-begin-via-then-at-begin w ↦ not_in_list _ _ _ l _ same.0 c.if-at-eq0.false (inl w.if-at-begin.true)
      | then-at-begin-via-else-at-begin+then-at-input w ↦ not_in_list _ _ _ l _ same.0 c.if-at-eq0.false (inr w.if-at-input.true)
    ]

pub returns : goal.returns
returns c =
    let whole = whole_list _ _ _ _ (alone _ _ _ _ _ c.in-Ok.ensures.exact (c.if-whole-octet.false ∙ c.octet.ensures.octet) (no_octets _ _ c.is_empty.ensures c.if-not-is_empty.false)) c.in-Some.ensures.1 (no_octets _ _ c.is_empty-2.ensures c.if-not-is_empty-2.false) in
    let shorter = list_fits _ _ whole in
    from_the_place _ _ _ _ _ whole c.in-Some.ensures.0 c.split_at.ensures.back (omega (arith, shorter, c.split_at.ensures.back_len, c.if-at-begin.false, c.if-at-input.false))
