use Rattle.std.proofs.Common.{inl, inr, refl, sym, ◌∙◌, arith}
use Rattle.x509_c_calls.proofs.Walks.{no_refusal, same_piece, alone, content_fits, from_the_place, from_the_begin, not_in_content, no_octets, some_octets}
use Rattle.x509_c_calls.proofs.payloads.cursor.left.Goals as goal
use Rattle.x509_c_calls.proofs.payloads.cursor.left.Goals.{then-whole-octet-via-then-whole-octet, then-whole-octet-via-else-whole-octet+then-not-is_empty, then-at-begin-via-then-at-begin, then-at-begin-via-else-at-begin+then-at-input}
use Rattle.x509_der.specs.TagLaws.{tag_is_identifier}

pub returns-in_default-clause-err : goal.returns-in_default-clause-err
returns-in_default-clause-err c =
    inr (rw c.as_u32.ensures.octets at c.if-input-as_u32.false, refl, λ left l. no_refusal _ _ _ _ (tag_is_identifier c.args.list) l (rw c.in_default.ensures.err at c.in_default.ensures.exact))

pub returns-then-whole-octet-clause-err : goal.returns-then-whole-octet-clause-err
returns-then-whole-octet-clause-err c =
    inr (
      rw c.as_u32.ensures.octets at c.if-input-as_u32.false,
      refl,
      λ left l.
          let same = same_piece _ _ _ _ (tag_is_identifier c.args.list) l _ c.in-Ok.ensures.exact in
          elim c.then-whole-octet.branch [
            | then-whole-octet-via-then-whole-octet w ↦ w.if-whole-octet.true (sym same.0 ∙ sym c.octet.ensures.octet)
            | then-whole-octet-via-else-whole-octet+then-not-is_empty w ↦ some_octets _ _ w.is_empty.ensures w.if-not-is_empty.true (sym same.2)
          ],
    )

pub returns-then-at-eq0-clause-ok : goal.returns-then-at-eq0-clause-ok
returns-then-at-eq0-clause-ok c =
    from_the_begin _ _ _ _ (alone _ _ _ _ _ c.in-Ok.ensures.exact (c.if-whole-octet.false ∙ c.octet.ensures.octet) (no_octets _ _ c.is_empty.ensures c.if-not-is_empty.false)) (rw c.as_u32.ensures.octets at c.if-input-as_u32.false) c.if-at-eq0.true

pub overflow_sub-begin : goal.overflow_sub-begin
overflow_sub-begin c =
    omega (arith, content_fits _ _ _ (alone _ _ _ _ _ c.in-Ok.ensures.exact (c.if-whole-octet.false ∙ c.octet.ensures.octet) (no_octets _ _ c.is_empty.ensures c.if-not-is_empty.false)))

pub returns-then-at-begin-clause-err : goal.returns-then-at-begin-clause-err
returns-then-at-begin-clause-err c =
    inr (
      rw c.as_u32.ensures.octets at c.if-input-as_u32.false,
      refl,
      λ left l.
          let same = same_piece _ _ _ _ (tag_is_identifier c.args.list) l _ c.in-Ok.ensures.exact in
          elim c.then-at-begin.branch [
            | then-at-begin-via-then-at-begin w ↦ not_in_content _ _ _ _ _ l same.1 c.if-at-eq0.false (inl w.if-at-begin.true)
            | then-at-begin-via-else-at-begin+then-at-input w ↦ not_in_content _ _ _ _ _ l same.1 c.if-at-eq0.false (inr w.if-at-input.true)
          ],
    )

pub returns-clause-ok : goal.returns-clause-ok
returns-clause-ok c =
    let e = alone _ _ _ _ _ c.in-Ok.ensures.exact (c.if-whole-octet.false ∙ c.octet.ensures.octet) (no_octets _ _ c.is_empty.ensures c.if-not-is_empty.false) in
    let shorter = content_fits _ _ _ e in
    from_the_place _ _ _ _ _ _ e (rw c.as_u32.ensures.octets at c.if-input-as_u32.false) c.split_at.ensures.back (omega (arith, shorter, c.split_at.ensures.back_len, c.if-at-begin.false, c.if-at-input.false))
