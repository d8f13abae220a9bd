use Rattle.std.proofs.Common.{◌≡◌, ◌≤◌, map, take}
use Rattle.x509_match.specs.Keys.{attribute_key}
use Rattle.x509_match.specs.Plain.{tally}
use Rattle.x509_match.proofs.names.count_matching.Given as goal

abbrev pub invariant-loop-attribute : goal.invariant-loop-attribute
invariant-loop-attribute l = record {
  count : l.count ≡ tally (attribute_key l.one) (map attribute_key (take l.attribute-index l.attributes));
  within : l.count ≤ l.attribute-index;
}
