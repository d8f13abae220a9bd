use Rattle.std.proofs.Common.{◌∙◌, sym, IsErr, rules}
use Rattle.base64.specs.Engines.{standard}
use Rattle.base64.specs.GeneralPurpose.{decode_of}
use Rattle.std.proofs.lemmas.Iterator.Consumers.{YieldsList-turn, YieldsList-end}
use Rattle.std.proofs.lemmas.Iterator.Splits.{YieldsList-from_slice_split}
use Rattle.x509_tool_run.specs.Pem.{ends_line}
use Rattle.x509_tool_run.proofs.PemLines.{after_outside, after_object, after_digits, at_end, at_last, at_line, at_malformed, at_open}
use Rattle.x509_tool_run.proofs.pem.objects_of.Goals as goal

pub loop-line-preserved-in-None-label : goal.loop-line-preserved-in-None-label
loop-line-preserved-in-None-label c =
    let turn = YieldsList-turn (YieldsList-from_slice_split _ ends_line c.args.text.now (cc) (cc) (cc) (λ x b q k. search rules)) c.loop-line.yielded _ c.loop-line.yielded_by _ _ c.in-Some.line c.in-Some.is c.next.ensures.steps in
    let here = at_line c.args.text.now _ _ _ c.in-Some.line _ _ _ _ turn c.trimmed-line.ensures c.loop-line.invariant.read in
    record { can_next = search rules; is_finite = search rules; read = rw c.label_of-label.ensures (after_outside _ _ _ _ _ (rw c.in-None-label.is at here)) }

pub loop-line-preserved-then-is_end : goal.loop-line-preserved-then-is_end
loop-line-preserved-then-is_end c =
    let turn = YieldsList-turn (YieldsList-from_slice_split _ ends_line c.args.text.now (cc) (cc) (cc) (λ x b q k. search rules)) c.loop-line.yielded _ c.loop-line.yielded_by _ _ c.in-Some.line c.in-Some.is c.next.ensures.steps in
    let here = at_line c.args.text.now _ _ _ c.in-Some.line _ _ _ _ turn c.trimmed-line.ensures c.loop-line.invariant.read in
    let read = after_object (λ object. object.items) _ c.loop-line.objects.items _ _ _ _ c.in-Ok.bytes (rw c.in-Some-label.is at here) (sym c.is_end.ensures ∙ c.if-is_end.true) (rw c.as_slice.ensures.value at c.in-Ok.ensures) in
    record { can_next = search rules; is_finite = search rules; read = rw (c.in_ok-push-in-Ok.ensures.items, c.clear.ensures.items) read }

pub loop-line-preserved : goal.loop-line-preserved
loop-line-preserved c =
    let turn = YieldsList-turn (YieldsList-from_slice_split _ ends_line c.args.text.now (cc) (cc) (cc) (λ x b q k. search rules)) c.loop-line.yielded _ c.loop-line.yielded_by _ _ c.in-Some.line c.in-Some.is c.next.ensures.steps in
    let here = at_line c.args.text.now _ _ _ c.in-Some.line _ _ _ _ turn c.trimmed-line.ensures c.loop-line.invariant.read in
    record { can_next = search rules; is_finite = search rules; read = rw (c.in_ok-extend_from_slice-in-Some-2.ensures.items, c.in-Some-label.is) (after_digits _ _ _ _ _ _ (rw c.in-Some-label.is at here) (sym c.is_end.ensures ∙ c.if-is_end.false)) }

pub returns-in-Err-Malformed : goal.returns-in-Err-Malformed
returns-in-Err-Malformed c =
    let turn = YieldsList-turn (YieldsList-from_slice_split _ ends_line c.args.text.now (cc) (cc) (cc) (λ x b q k. search rules)) c.loop-line.yielded _ c.loop-line.yielded_by _ _ c.in-Some.line c.in-Some.is c.next.ensures.steps in
    let here = at_line c.args.text.now _ _ _ c.in-Some.line _ _ _ _ turn c.trimmed-line.ensures c.loop-line.invariant.read in
    let spoilt : IsErr (decode_of standard c.loop-line.digits.items) = search rules in
    sym (at_malformed _ _ _ _ _ _ (rw c.in-Some-label.is at here) (sym c.is_end.ensures ∙ c.if-is_end.true) spoilt)

pub returns-in-None-label-2 : goal.returns-in-None-label-2
returns-in-None-label-2 c =
    let end = YieldsList-end (YieldsList-from_slice_split _ ends_line c.args.text.now (cc) (cc) (cc) (λ x b q k. search rules)) c.loop-line.yielded _ c.loop-line.yielded_by _ _ c.in-None.is c.next.ensures.steps in
    sym (at_last _ _ _ (rw c.in-None-label-2.is at (at_end c.args.text.now _ _ _ _ _ end.1 c.loop-line.invariant.read)))

pub returns-in-Some-label-2 : goal.returns-in-Some-label-2
returns-in-Some-label-2 c =
    let end = YieldsList-end (YieldsList-from_slice_split _ ends_line c.args.text.now (cc) (cc) (cc) (λ x b q k. search rules)) c.loop-line.yielded _ c.loop-line.yielded_by _ _ c.in-None.is c.next.ensures.steps in
    sym (at_open _ _ _ _ (rw c.in-Some-label-2.is at (at_end c.args.text.now _ _ _ _ _ end.1 c.loop-line.invariant.read)))
