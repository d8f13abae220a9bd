use Rattle.std.proofs.Common.{◌≡◌, ◌≤◌, ◌++◌, List, None, length, drop}
use Rattle.x509_c_calls.proofs.payloads.first.first_of.Given as goal
use Rattle.x509_der.specs.List.{joined}
use Rattle.x509_der.specs.Form.{spelling}
use Rattle.x509_name.specs.Iterators.{members_of}
use Rattle.x509_name.specs.LookUp.{first_of_type}
use Rattle.x509_name.specs.Names.{relative_distinguished_name}
use Rattle.x509_name.specs.declared.attr.type_and_value.AttributeTypeAndValue.{AttributeTypeAndValue}

-- no attribute of the type is in what was passed, and the rest stands at the place that was reached
abbrev pub invariant-loop-rdn : goal.invariant-loop-rdn
invariant-loop-rdn l =
    (l.at ≤ length l.input)
    × ((before : List (List AttributeTypeAndValue)) × (l.rdns ≡ before ++ l.rest) × (first_of_type l.oid (members_of before) ≡ None))
    × (drop l.place l.input ≡ joined (spelling relative_distinguished_name) l.rdns → drop l.at l.input ≡ joined (spelling relative_distinguished_name) l.rest)

abbrev pub decreases-loop-rdn : goal.decreases-loop-rdn
decreases-loop-rdn l = length l.rest
