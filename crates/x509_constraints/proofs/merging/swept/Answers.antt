use Rattle.std.proofs.Common.{◌≡◌}
use Rattle.x509_constraints.specs.Merging.{merge}
use Rattle.x509_constraints.specs.Prefixes.{begins_one}
use Rattle.x509_constraints.proofs.Merges.{merge-IsRising, swept_rising}
use Rattle.x509_constraints.proofs.Sweep.{last_of, swept_drop_step, swept_push_step}
use Rattle.x509_constraints.proofs.merging.swept.Goals as goal

pub loop-key-init : goal.loop-key-init
loop-key-init c =
    let start = swept_rising (merge c.args.left.items c.args.right.items) (merge-IsRising _ _ c.requires.left c.requires.right) in
    rw (c.new-kept.ensures.items, c.from-lefts.ensures.0, c.from-rights.ensures.0) start

pub loop-key-preserved-in-Continue-1 : goal.loop-key-preserved-in-Continue-1
loop-key-preserved-in-Continue-1 c =
    let answer : c.begins_with_last.result ≡ begins_one c.in-Some.key (last_of c.loop-key.kept.items) = cc in
    swept_push_step _ _ _ _ _ _ _ c.loop-key.invariant c.in-Some.ensures answer c.if-not-begins_with_last.true c.in_ok-push.ensures.items

pub loop-key-preserved : goal.loop-key-preserved
loop-key-preserved c =
    let answer : c.begins_with_last.result ≡ begins_one c.in-Some.key (last_of c.loop-key.kept.items) = cc in
    swept_drop_step _ _ _ _ _ _ c.loop-key.invariant c.in-Some.ensures answer c.if-not-begins_with_last.false
