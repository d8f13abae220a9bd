use Rattle.std.proofs.Common.{◌||◌, false, slice_index_or}
use Rattle.x509_constraints.specs.Notes.{notes}
use Rattle.x509_constraints.proofs.Allowed.{nine}
use Rattle.x509_constraints.proofs.sets.noted_with.Goals as goal

pub returns : goal.returns
returns c =
    nine _ _ _ _ _ _ _ _ _ (λ form. slice_index_or c.args.before.now form false || notes c.args.note form c.args.constraints.now) c.is_noted_with.ensures
    c.is_noted_with-2.ensures c.is_noted_with-3.ensures c.is_noted_with-4.ensures c.is_noted_with-5.ensures c.is_noted_with-6.ensures
    c.is_noted_with-7.ensures c.is_noted_with-8.ensures c.is_noted_with-9.ensures
