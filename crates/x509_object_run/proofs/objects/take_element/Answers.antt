use Rattle.x509_object_run.proofs.ContentInfo.{refused_piece}
use Rattle.x509_object_run.proofs.ObjectsLeft.{take_less, take_none, take_some}
use Rattle.x509_object_run.proofs.objects.take_element.Goals as goal

pub returns-in_default-clause-taken : goal.returns-in_default-clause-taken
returns-in_default-clause-taken c = take_none c.args.rest.now.now (refused_piece _ _ c.in_default.ensures.exact c.in_default.ensures.err)

pub returns-clause-taken : goal.returns-clause-taken
returns-clause-taken c = take_some c.args.rest.now.now _ _ _ c.saturating_sub.result c.in-Ok.ensures.exact c.saturating_sub.ensures c.split_at.ensures.front c.split_at.ensures.back

pub returns-clause-less : goal.returns-clause-less
returns-clause-less c = take_less c.args.rest.now.now _ _ c.saturating_sub.result c.in-Ok.ensures.exact c.saturating_sub.ensures c.split_at.ensures.back
