use Rattle.std.proofs.Common.{◌≡◌, ◌++◌, List, length, All}
use Rattle.x509_match.proofs.Partners.{HasPartners}
use Rattle.x509_match.specs.Encoded.{AreAttributes}
use Rattle.x509_match.specs.Plain.{ArePlain}
use Rattle.x509_name.specs.declared.attr.type_and_value.AttributeTypeAndValue.{AttributeTypeAndValue}
use Rattle.x509_match.proofs.lent.counts_match.Given as goal

abbrev pub invariant-loop-rest : goal.invariant-loop-rest
invariant-loop-rest l = record {
  same : (xs ys : List AttributeTypeAndValue) → AreAttributes l.a xs → AreAttributes l.b ys
      → (front : List AttributeTypeAndValue) × (behind : List AttributeTypeAndValue) × (xs ≡ front ++ behind) × AreAttributes l.rest behind
      × All (HasPartners xs ys) front;
  plain : (xs : List AttributeTypeAndValue) → AreAttributes l.a xs → ArePlain xs
      → (behind : List AttributeTypeAndValue) × AreAttributes l.rest behind × ArePlain behind;
}

abbrev pub decreases-loop-rest : goal.decreases-loop-rest
decreases-loop-rest l = length l.rest
