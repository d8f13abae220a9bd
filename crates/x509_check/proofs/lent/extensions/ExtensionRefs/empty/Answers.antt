use Rattle.std.proofs.Common.{[], refl}
use Rattle.x509_check.proofs.LentLists.{is_list}
use Rattle.x509_der.specs.ListLaws.{none_read}
use Rattle.x509_ext.specs.Extension.{extension}
use Rattle.x509_check.proofs.lent.extensions.ExtensionRefs.empty.Goals as goal

pub invariant_of-result : goal.invariant_of-result
invariant_of-result c = record { are_extensions = (is_list _ [] (none_read extension.reading [] refl)).0 }

pub returns : goal.returns
returns c = (is_list _ [] (none_read extension.reading [] refl)).1
