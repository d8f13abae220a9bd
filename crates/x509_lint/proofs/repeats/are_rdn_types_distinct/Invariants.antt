use Rattle.std.proofs.Common.{◌≡◌, take}
use Rattle.x509_lint.specs.Values.{rdn_types}
use Rattle.x509_lint.proofs.repeats.are_rdn_types_distinct.Given as goal

abbrev pub invariant-loop-attribute : goal.invariant-loop-attribute
invariant-loop-attribute l = l.types.items ≡ rdn_types (take l.attribute-index l.attributes)
