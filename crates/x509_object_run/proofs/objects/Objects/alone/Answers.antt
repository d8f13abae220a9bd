use Rattle.std.proofs.Common.{[], refl}
use Rattle.x509_object_run.proofs.ContentInfo.{none_joined}
use Rattle.x509_object_run.proofs.objects.Objects.alone.Goals as goal

pub returns : goal.returns
returns c = ([], [], none_joined, none_joined, refl)
