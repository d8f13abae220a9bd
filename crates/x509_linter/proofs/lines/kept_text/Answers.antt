use Rattle.std.proofs.Common.{◌==◌, map, rules}
use Rattle.std.proofs.lemmas.Iterator.Consumers.{YieldsList-turn, YieldsList-end}
use Rattle.std.proofs.lemmas.Iterator.Splits.{YieldsList-from_slice_split}
use Rattle.x509_linter.proofs.KeptLines.{after_line, at_end, at_line}
use Rattle.x509_linter.proofs.lines.kept_text.Goals as goal

pub loop-line-preserved : goal.loop-line-preserved
loop-line-preserved c =
    let turn = YieldsList-turn (YieldsList-from_slice_split _ (λ octet. octet == 10) c.args.text.now (cc) (cc) (cc) (λ x b q k. search rules)) c.loop-line.yielded _ c.loop-line.yielded_by _ _ c.in-Some.line c.in-Some.is c.next.ensures.steps in
    let here = at_line (map (λ option. option.now) c.args.options.now) c.args.front _ c.args.text.now _ _ c.in-Some.line _ turn c.loop-line.invariant.kept in
    record { can_next = search rules; is_finite = search rules; kept = rw c.in_ok-push_kept.ensures (after_line _ _ _ _ _ _ here) }

pub returns : goal.returns
returns c =
    let end = YieldsList-end (YieldsList-from_slice_split _ (λ octet. octet == 10) c.args.text.now (cc) (cc) (cc) (λ x b q k. search rules)) c.loop-line.yielded _ c.loop-line.yielded_by _ _ c.in-None.is c.next.ensures.steps in
    at_end (map (λ option. option.now) c.args.options.now) c.args.front _ c.args.text.now _ _ end.1 c.loop-line.invariant.kept
