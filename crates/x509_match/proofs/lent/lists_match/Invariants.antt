use Rattle.std.proofs.Common.{◌↔◌, List, length}
use Rattle.x509_match.specs.Encoded.{AreRdns}
use Rattle.x509_match.specs.Matching.{NamesMatch}
use Rattle.x509_match.specs.Plain.{IsPlainName}
use Rattle.x509_name.specs.declared.attr.type_and_value.AttributeTypeAndValue.{AttributeTypeAndValue}
use Rattle.x509_match.proofs.lent.lists_match.Given as goal

abbrev pub invariant-loop-left : goal.invariant-loop-left
invariant-loop-left l = record {
  same : (x y : List (List AttributeTypeAndValue)) → AreRdns l.a x → AreRdns l.b y
      → (x_behind : List (List AttributeTypeAndValue)) × (y_behind : List (List AttributeTypeAndValue)) × AreRdns l.left x_behind × AreRdns l.right y_behind
      × (NamesMatch x_behind y_behind ↔ NamesMatch x y);
  plain : (x y : List (List AttributeTypeAndValue)) → AreRdns l.a x → AreRdns l.b y → IsPlainName x → IsPlainName y
      → (x_behind : List (List AttributeTypeAndValue)) × (y_behind : List (List AttributeTypeAndValue)) × AreRdns l.left x_behind × AreRdns l.right y_behind
      × IsPlainName x_behind × IsPlainName y_behind;
}

abbrev pub decreases-loop-left : goal.decreases-loop-left
decreases-loop-left l = length l.left
