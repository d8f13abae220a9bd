use Rattle.x509_check.proofs.LentLists.{is_list}
use Rattle.x509_check.proofs.lent.extensions.ExtensionRefs.of_checked.Goals as goal

pub invariant_of-result : goal.invariant_of-result
invariant_of-result c = record { are_extensions = (is_list _ c.requires.0 (c.members_of.ensures c.requires.0 c.requires.1)).0 }

pub returns : goal.returns
returns c = λ list spells. (is_list _ list (c.members_of.ensures list spells)).1
