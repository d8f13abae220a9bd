use Rattle.std.proofs.Common.{sym, ◌∙◌}
use Rattle.x509_c_calls.proofs.UniversalTexts.{no_front, no_text, one_char_more, text_is, too_short}
use Rattle.x509_c_calls.proofs.payloads.universal.universal_text.Goals as goal

pub returns-in_default-from_u32-clause-ok : goal.returns-in_default-from_u32-clause-ok
returns-in_default-from_u32-clause-ok c =
    no_text _ (sym c.loop-rest.invariant.same ∙ no_front c.loop-rest.rest.now c.in-len4-up.len_at_least c.in_default-from_u32.ensures.cases)

pub loop-rest-preserved : goal.loop-rest-preserved
loop-rest-preserved c =
    let k = one_char_more c.loop-rest.rest.now _ _ _ c.in-Some.c c.in-len4-up.len_at_least c.in-Some.ensures.cases c.in-Some.ensures.value.1 c.in_ok-push.ensures.bytes c.loop-rest.invariant.text in
    record { text = k.0; same = k.1 ∙ c.loop-rest.invariant.same }

pub returns-then-not-is_empty-clause-ok : goal.returns-then-not-is_empty-clause-ok
returns-then-not-is_empty-clause-ok c =
    no_text _ (sym c.loop-rest.invariant.same ∙ too_short c.loop-rest.rest.now c.in_default.len_below (sym c.is_empty.ensures ∙ c.if-not-is_empty.true))

pub returns-clause-ok : goal.returns-clause-ok
returns-clause-ok c =
    text_is _ c.loop-rest.rest.now _ (sym c.is_empty.ensures ∙ c.if-not-is_empty.false) c.loop-rest.invariant.text c.loop-rest.invariant.same
