-- What the types round one value keep, as the logic holds it, for the clauses on what a `&mut` lends.
use denote.RattleType.{RattleType}
use Rattle.x509_der.specs.contracts.list.SequenceOf as sequence
use Rattle.x509_ext.specs.contracts.pkix.policy_information.PolicyInformation as policy_information
use Rattle.x509_ext.specs.contracts.pkix.policy_mapping.PolicyMapping as policy_mapping

abbrev pub policy_list_row : RattleType
policy_list_row = sequence.the_row policy_information.the_row

abbrev pub mapping_list_row : RattleType
mapping_list_row = sequence.the_row policy_mapping.the_row
