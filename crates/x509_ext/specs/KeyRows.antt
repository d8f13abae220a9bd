-- What the types round one value keep, as the logic holds it, for the clauses on what a `&mut` lends.
use denote.RattleType.{RattleType}
use Rattle.x509_der.specs.contracts.list.SequenceOf as sequence
use Rattle.x509_der.specs.contracts.oid.identifier.ObjectIdentifier as identifier

abbrev pub identifier_list_row : RattleType
identifier_list_row = sequence.the_row identifier.the_row
