use Rattle.std.proofs.Common.{◌+◌, ◌-◌, ◌∙◌, arith}
use Rattle.std.proofs.Common.{ap}
use Rattle.x509_constraints.proofs.KeyLaws.{turned_more, turned_none}
use Rattle.x509_constraints.proofs.host_keys.push_turned.Goals as goal

pub loop-left-init : goal.loop-left-init
loop-left-init c = (omega arith, turned_none c.args.host.now c.args.key.now)

pub loop-left-preserved : goal.loop-left-preserved
loop-left-preserved c = (
  omega arith,
  c.in_ok-push.ensures ∙ turned_more c.args.host.now (c.loop-left.left - 1) c.loop-left.left _ _ _ (omega arith) (omega arith)
      (c.symbol.ensures ∙ ap (λ n. n + 1) c.to_ascii_lowercase.ensures.value) c.loop-left.invariant.1,
)
