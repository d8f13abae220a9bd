use Rattle.std.proofs.Common.{◌↔◌, length}
use Rattle.x509_match.specs.Matching.{NamesMatch}
use Rattle.x509_match.specs.Plain.{IsPlainName}
use Rattle.x509_match.proofs.names.lists_match.Given as goal

abbrev pub invariant-loop-left : goal.invariant-loop-left
invariant-loop-left l = record {
  rest : NamesMatch l.left l.right ↔ NamesMatch l.a l.b;
  left : IsPlainName l.a → IsPlainName l.left;
  right : IsPlainName l.b → IsPlainName l.right;
}

abbrev pub decreases-loop-left : goal.decreases-loop-left
decreases-loop-left l = length l.left
