use Rattle.std.proofs.Common.{◌≡◌, ◌≤◌, ◌++◌, ℕ, List, None, length, drop}
use Rattle.x509_c_calls.proofs.payloads.first.first_in.Given as goal
use Rattle.x509_der.specs.List.{joined}
use Rattle.x509_der.specs.Form.{spelling}
use Rattle.x509_name.specs.LookUp.{first_of_type}
use Rattle.x509_name.specs.TypeAndValue.{attribute_type_and_value}
use Rattle.x509_name.specs.declared.attr.type_and_value.AttributeTypeAndValue.{AttributeTypeAndValue}

-- what was passed is of another type, and the rest stands at the place that was reached
abbrev pub invariant-loop-first : goal.invariant-loop-first
invariant-loop-first l =
    (l.at ≤ length l.input)
    × ((before : List AttributeTypeAndValue) × (l.attributes ≡ before ++ l.rest) × (first_of_type l.oid before ≡ None))
    × ((more : List ℕ) → drop l.place l.input ≡ joined (spelling attribute_type_and_value) l.attributes ++ more → drop l.at l.input ≡ joined (spelling attribute_type_and_value) l.rest ++ more)

abbrev pub decreases-loop-first : goal.decreases-loop-first
decreases-loop-first l = length l.rest
