use Rattle.std.proofs.Common.{◌≡◌, take}
use Rattle.x509_lint.specs.Request.{attribute_types}
use Rattle.x509_lint.proofs.request.values.are_types_distinct.Given as goal

abbrev pub invariant-loop-attribute : goal.invariant-loop-attribute
invariant-loop-attribute l = l.types.items ≡ attribute_types (take l.attribute-index l.attributes)
