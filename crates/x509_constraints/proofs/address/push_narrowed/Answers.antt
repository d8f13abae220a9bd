use Rattle.std.proofs.Common.{◌∙◌}
use Rattle.x509_constraints.proofs.AddressLaws.{narrowed_step}
use Rattle.x509_constraints.proofs.address.push_narrowed.Goals as goal

pub loop-i-preserved : goal.loop-i-preserved
loop-i-preserved c =
    c.in_ok-push_beginnings.ensures ∙ narrowed_step c.args.key.now _ c.args.address.now c.args.mask.now c.loop-i.i _ c.loop-i-test.true c.requires
    c.loop-i.invariant c.ones.ensures.value
