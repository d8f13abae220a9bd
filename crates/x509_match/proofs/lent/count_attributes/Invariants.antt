use Rattle.std.proofs.Common.{◌≡◌, ◌+◌, ◌≤◌, List, length}
use Rattle.x509_match.specs.Encoded.{AreAttributes}
use Rattle.x509_name.specs.declared.attr.type_and_value.AttributeTypeAndValue.{AttributeTypeAndValue}
use Rattle.x509_match.proofs.lent.count_attributes.Given as goal

abbrev pub invariant-loop-rest : goal.invariant-loop-rest
invariant-loop-rest l = record {
  same : (xs : List AttributeTypeAndValue) → AreAttributes l.attributes xs
      → (behind : List AttributeTypeAndValue) × AreAttributes l.rest behind × (l.count + length behind ≡ length xs);
  within : l.count + length l.rest ≤ length l.attributes;
}

abbrev pub decreases-loop-rest : goal.decreases-loop-rest
decreases-loop-rest l = length l.rest
