use Rattle.std.proofs.Common.{◌≡◌, ◌+◌, ◌≤◌, false, length, drop}
use Rattle.x509_name.specs.Cutting.{cut}
use Rattle.x509_name.proofs.text.parts.count_parts.Given as goal

abbrev pub invariant-loop-byte : goal.invariant-loop-byte
invariant-loop-byte l = record {
  bounded : l.count ≤ l.byte-index + 1;
  so_far : l.count + length (cut l.separator (drop l.byte-index l.text) l.escaped) ≡ length (cut l.separator l.text false) + 1;
}
