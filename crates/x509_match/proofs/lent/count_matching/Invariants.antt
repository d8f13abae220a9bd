use Rattle.std.proofs.Common.{◌≡◌, ◌+◌, ◌≤◌, List, length, map}
use Rattle.x509_match.specs.Encoded.{AreAttributes, LendsAttribute}
use Rattle.x509_match.specs.Keys.{attribute_key}
use Rattle.x509_match.specs.Plain.{ArePlain, tally}
use Rattle.x509_name.specs.declared.attr.type_and_value.AttributeTypeAndValue.{AttributeTypeAndValue}
use Rattle.x509_match.proofs.lent.count_matching.Given as goal

abbrev pub invariant-loop-rest : goal.invariant-loop-rest
invariant-loop-rest l = record {
  same : (x : AttributeTypeAndValue) (ys : List AttributeTypeAndValue) → LendsAttribute l.one x → AreAttributes l.attributes ys
      → (behind : List AttributeTypeAndValue) × AreAttributes l.rest behind
      × (l.count + tally (attribute_key x) (map attribute_key behind) ≡ tally (attribute_key x) (map attribute_key ys));
  plain : (ys : List AttributeTypeAndValue) → AreAttributes l.attributes ys → ArePlain ys
      → (behind : List AttributeTypeAndValue) × AreAttributes l.rest behind × ArePlain behind;
  within : l.count + length l.rest ≤ length l.attributes;
}

abbrev pub decreases-loop-rest : goal.decreases-loop-rest
decreases-loop-rest l = length l.rest
