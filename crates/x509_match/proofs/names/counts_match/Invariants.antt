use Rattle.std.proofs.Common.{◌≡◌, map, take, All}
use Rattle.x509_match.specs.Keys.{attribute_key}
use Rattle.x509_match.specs.Plain.{tally}
use Rattle.x509_match.proofs.names.counts_match.Given as goal

abbrev pub invariant-loop-attribute : goal.invariant-loop-attribute
invariant-loop-attribute l = All (λ x. tally (attribute_key x) (map attribute_key l.a) ≡ tally (attribute_key x) (map attribute_key l.b)) (take l.attribute-index l.a)
