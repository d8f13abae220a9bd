use Rattle.x509_constraints.specs.SubtreeKeys.{prefixes_of}
use Rattle.x509_constraints.proofs.Gathering.{open_more}
use Rattle.x509_constraints.proofs.subtree_keys.permitted_prefixes.Goals as goal

pub loop-form-preserved : goal.loop-form-preserved
loop-form-preserved c =
    open_more c.args.subtrees.now (prefixes_of c.args.subtrees.now) c.loop-form.prefixes.items _ c.loop-form.form c.loop-form.invariant c.in_ok-push_open_form.ensures
