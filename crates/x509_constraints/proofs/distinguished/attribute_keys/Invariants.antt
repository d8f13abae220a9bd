use Rattle.std.proofs.Common.{◌≡◌, map, take}
use Rattle.x509_match.specs.Keys.{attribute_key}
use Rattle.x509_constraints.proofs.distinguished.attribute_keys.Given as goal

abbrev pub invariant-loop-attribute : goal.invariant-loop-attribute
invariant-loop-attribute l = map (λ key. key.items) l.keys.items ≡ map attribute_key (take l.attribute-index l.attributes)
