use Rattle.std.proofs.Common.{◌==◌, rules}
use Rattle.std.proofs.lemmas.Iterator.Consumers.{YieldsList-turn, YieldsList-end}
use Rattle.std.proofs.lemmas.Iterator.Splits.{YieldsList-from_slice_split}
use Rattle.std.specs.List.{slice_split}
use Rattle.x509_linter.proofs.Summed.{after_line, at_end, at_line}
use Rattle.x509_linter.proofs.summary.whole_lines.Goals as goal

pub loop-line-preserved : goal.loop-line-preserved
loop-line-preserved c =
    let turn = YieldsList-turn (YieldsList-from_slice_split _ (λ octet. octet == 10) c.args.text.now (cc) (cc) (cc) (λ x b q k. search rules)) c.loop-line.yielded _ c.loop-line.yielded_by _ _ c.in-Some.line c.in-Some.is c.next.ensures.steps in
    let here = at_line _ (slice_split (λ octet. octet == 10) c.args.text.now) _ _ c.in-Some.line _ turn c.loop-line.invariant.taken in
    record { can_next = search rules; is_finite = search rules; taken = rw c.in_ok-push_line.ensures (after_line _ _ _ _ here) }

pub returns : goal.returns
returns c =
    let end = YieldsList-end (YieldsList-from_slice_split _ (λ octet. octet == 10) c.args.text.now (cc) (cc) (cc) (λ x b q k. search rules)) c.loop-line.yielded _ c.loop-line.yielded_by _ _ c.in-None.is c.next.ensures.steps in
    at_end _ (slice_split (λ octet. octet == 10) c.args.text.now) _ _ end.1 c.loop-line.invariant.taken
