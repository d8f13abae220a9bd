use Rattle.std.proofs.Common.{◌≡◌}
use Rattle.x509_name.specs.Iterators.{attributes_left, members_of}
use Rattle.x509_name.specs.LookUp.{first_of_type}
use Rattle.x509_name.proofs.name.name.Name.first_of_type.Given as goal

-- what was passed is not of the type
abbrev pub invariant-loop-attribute : goal.invariant-loop-attribute
invariant-loop-attribute l = first_of_type l.oid (attributes_left l.attribute-iterator) ≡ first_of_type l.oid (members_of l.self)
