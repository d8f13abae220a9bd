use Rattle.std.proofs.Common.{refl, ◌≡◌, map, length, lit<, Some, ap, ◌∙◌, arith}
use Rattle.std.specs.Fmt.{decimal}
use Rattle.std.specs.List.{slice_split}
use Rattle.std.proofs.lemmas.Iterator.Consumers.{YieldsList-turn, YieldsList-end}
use Rattle.std.proofs.lemmas.Iterator.Splits.{YieldsList-from_str_split}
use Rattle.std.proofs.lemmas.List.{length-map}
use Rattle.x509_der.proofs.TextLaws.{is_stop, part_is_arc, count_parts, dotted_from_parts, parts_some, one_arcs}
use Rattle.x509_der.proofs.oid.numbers.Numbers.arcs_in.Goals as goal

pub returns-then-is_full-clause-only : goal.returns-then-is_full-clause-only
returns-then-is_full-clause-only c = λ arcs some few small is.
    let turn = YieldsList-turn (YieldsList-from_str_split 46 c.args.text.now (lit< tt) (cc) (cc) (cc)) c.loop-part.yielded _ c.loop-part.yielded_by _ _ c.in-Some.part c.in-Some.is c.next.ensures.steps in
    let count = count_parts c.args.text.now arcs some small is in
    let read = ap length c.loop-part.invariant.read in
    let ours = length-map c.loop-part.numbers decimal in
    let theirs = length-map c.loop-part.yielded (λ part. part.now) in
    let full : length c.loop-part.numbers ≡ 40 = c.if-is_full.ensures.0 refl in
    absurd (omega arith)

pub returns-in_err-arc_in-clause-only : goal.returns-in_err-arc_in-clause-only
returns-in_err-arc_in-clause-only c = λ arcs some few small is.
    let turn = YieldsList-turn (YieldsList-from_str_split 46 c.args.text.now (lit< tt) (cc) (cc) (cc)) c.loop-part.yielded _ c.loop-part.yielded_by _ _ c.in-Some.part c.in-Some.is c.next.ensures.steps in
    let arc = part_is_arc c.args.text.now arcs c.in-Some.part.now (length c.loop-part.yielded) some small is turn.0 turn.1 in
    absurd (let none = c.in_err-arc_in.ensures.only arc.0 arc.1 arc.2 in cc)

pub returns-clause-found : goal.returns-clause-found
returns-clause-found c =
    let end = YieldsList-end (YieldsList-from_str_split 46 c.args.text.now (lit< tt) (cc) (cc) (cc)) c.loop-part.yielded _ c.loop-part.yielded_by _ _ c.in-None.is c.next.ensures.steps in
    let parts : map decimal c.loop-part.numbers ≡ slice_split is_stop c.args.text.now = c.loop-part.invariant.read ∙ end.0 in
    (parts_some c.args.text.now c.loop-part.numbers parts, c.loop-part.invariant.small, dotted_from_parts c.args.text.now c.loop-part.numbers parts)

pub returns-clause-only : goal.returns-clause-only
returns-clause-only c = λ arcs some few small is.
    let end = YieldsList-end (YieldsList-from_str_split 46 c.args.text.now (lit< tt) (cc) (cc) (cc)) c.loop-part.yielded _ c.loop-part.yielded_by _ _ c.in-None.is c.next.ensures.steps in
    let parts : map decimal c.loop-part.numbers ≡ slice_split is_stop c.args.text.now = c.loop-part.invariant.read ∙ end.0 in
    ap (λ xs. Some xs) (one_arcs c.args.text.now c.loop-part.numbers arcs parts c.loop-part.invariant.small some small is)
