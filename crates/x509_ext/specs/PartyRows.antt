-- What the types round one value keep, as the logic holds it, for the clauses on what a `&mut` lends.
use denote.RattleType.{RattleType}
use Rattle.x509_der.specs.contracts.list.SequenceOf as sequence
use Rattle.x509_name.specs.contracts.attr.attribute.Attribute as attribute
use Rattle.x509_ext.specs.contracts.pkix.name.general_name.GeneralName as general_name
use Rattle.x509_ext.specs.contracts.pkix.access.AccessDescription as description

abbrev pub general_names_row : RattleType
general_names_row = sequence.the_row general_name.the_row

abbrev pub attribute_list_row : RattleType
attribute_list_row = sequence.the_row attribute.the_row

abbrev pub access_list_row : RattleType
access_list_row = sequence.the_row description.the_row
