-- What the types of names keep, as the logic holds it, for the clauses on what a `&mut` lends.
use denote.RattleType.{RattleType}
use Rattle.x509_der.specs.contracts.list.SequenceOf as sequence
use Rattle.x509_der.specs.contracts.set.SetOfVec as set
use Rattle.x509_name.specs.contracts.attr.type_and_value.AttributeTypeAndValue as attribute
use Rattle.x509_name.specs.contracts.attr.type_and_value.AttributeTypeAndValueSetOrd.TheImpl.{ghosts}
use Rattle.x509_name.specs.contracts.name.rdn.RelativeDistinguishedName as rdn

abbrev pub attribute_set_row : RattleType
attribute_set_row = set.the_row attribute.the_row ghosts

abbrev pub rdn_list_row : RattleType
rdn_list_row = sequence.the_row rdn.the_row
