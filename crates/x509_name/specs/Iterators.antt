-- What the iterators over names and their parts have still to give.
use Rattle.std.specs.Prelude.{List, ◌++◌}
use Rattle.std.specs.List.{flat_map}
use Rattle.x509_name.specs.declared.attr.type_and_value.AttributeTypeAndValue.{AttributeTypeAndValue}
use Rattle.x509_name.specs.declared.name.iterators.NameIter.{NameIter}
use Rattle.x509_name.specs.declared.name.iterators.RdnIter.{RdnIter}
use Rattle.x509_name.specs.declared.name.iterators.RdnSequenceIter.{RdnSequenceIter}

-- the members of the lists, one list after the other
abbrev pub members_of : {X : Type 0} → List (List X) → List X
members_of lists = flat_map (λ list. list) lists

-- of a name
abbrev pub attributes_left : NameIter → List AttributeTypeAndValue
attributes_left iterator = iterator.front.now ++ members_of iterator.rest.now

-- of a relative distinguished name
abbrev pub rdn_left : RdnIter → List AttributeTypeAndValue
rdn_left iterator = iterator.attributes.now

-- of a sequence
abbrev pub rdns_left : RdnSequenceIter → List (List AttributeTypeAndValue)
rdns_left iterator = iterator.rdns.now
