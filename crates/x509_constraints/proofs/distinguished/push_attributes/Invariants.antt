use Rattle.std.proofs.Common.{◌≡◌, ◌++◌, take}
use Rattle.std.specs.List.{flat_map}
use Rattle.x509_constraints.specs.Directory.{rdn_key}
use Rattle.x509_constraints.specs.Keys.{symbols}
use Rattle.x509_constraints.proofs.distinguished.push_attributes.Given as goal

abbrev pub invariant-loop-attribute : goal.invariant-loop-attribute
invariant-loop-attribute l =
    l.key ≡ l.initial.key ++ flat_map (λ attribute. symbols (rdn_key attribute.items)) (take l.attribute-index l.attributes)
