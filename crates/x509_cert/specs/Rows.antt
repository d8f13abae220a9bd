-- What a type round one value keeps, as the logic holds it, for the clauses on what a `&mut` lends.
use denote.RattleType.{RattleType}
use Rattle.x509_der.specs.contracts.list.SequenceOf as sequence
use Rattle.x509_ext.specs.contracts.extension.Extension as extension

abbrev pub extensions_row : RattleType
extensions_row = sequence.the_row extension.the_row
