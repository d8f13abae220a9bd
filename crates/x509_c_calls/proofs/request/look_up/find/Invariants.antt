use Rattle.std.proofs.Common.{◌≡◌, ◌≤◌, ◌++◌, ℕ, List, length, drop}
use Rattle.x509_c_calls.proofs.request.look_up.find.Given as goal
use Rattle.x509_cert.specs.AttributeLookUp.{with_type}
use Rattle.x509_der.specs.List.{joined}
use Rattle.x509_der.specs.Form.{spelling}
use Rattle.x509_name.specs.Attribute.{attribute}
use Rattle.x509_name.specs.declared.attr.attribute.Attribute.{Attribute}

-- what was passed is of another type, and the others are the rest and stand at the place that was reached
abbrev pub invariant-loop-first : goal.invariant-loop-first
invariant-loop-first l =
    (with_type l.oid l.rest ≡ with_type l.oid l.attributes) × (l.at ≤ length l.input)
    × ((before : List Attribute) × (l.attributes ≡ before ++ l.rest))
    × ((more : List ℕ) → drop l.place l.input ≡ joined (spelling attribute) l.attributes ++ more → drop l.at l.input ≡ joined (spelling attribute) l.rest ++ more)

abbrev pub decreases-loop-first : goal.decreases-loop-first
decreases-loop-first l = length l.rest
