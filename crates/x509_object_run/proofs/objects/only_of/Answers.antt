use Rattle.std.proofs.Common.{ap}
use Rattle.std.specs.Option.{option_map}
use Rattle.x509_object_run.proofs.ObjectsLeft.{more_than_one, one_alone}
use Rattle.x509_object_run.specs.SignedData.{objects_of}
use Rattle.x509_object_run.proofs.objects.only_of.Goals as goal

pub returns-in-Some : goal.returns-in-Some
returns-in-Some c =
    more_than_one (objects_of c.args.bytes.now) _ _ _ _ _ (c.next-only.ensures.taken (objects_of c.args.bytes.now) c.of-objects.ensures) c.next.ensures.taken (ap (option_map (λ object. object.now)) c.in-Some.is)

pub returns-in-None : goal.returns-in-None
returns-in-None c =
    one_alone (λ object. object.now) c.next-only.result (objects_of c.args.bytes.now) _ _ _ (c.next-only.ensures.taken (objects_of c.args.bytes.now) c.of-objects.ensures) c.next.ensures.taken (ap (option_map (λ object. object.now)) c.in-None.is)
