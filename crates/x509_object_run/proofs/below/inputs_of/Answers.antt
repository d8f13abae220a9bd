use Rattle.x509_object_run.proofs.Found.{all_next}
use Rattle.x509_object_run.proofs.below.inputs_of.Goals as goal

pub loop-name-preserved : goal.loop-name-preserved
loop-name-preserved g c =
    all_next (λ name. name.now) (g.O.Opener.lists c.args.opener.now) (g.O.Opener.stands c.args.opener.now) c.args.names.now c.loop-name.name-index _ _ _ c.loop-name.has_directory c.in_ok-has_directory.field-0 c.loop-name-test.true c.loop-name.invariant c.in_ok-has_directory.ensures
