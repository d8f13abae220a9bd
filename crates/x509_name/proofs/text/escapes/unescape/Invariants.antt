use Rattle.std.proofs.Common.{◌≡◌, ◌≤◌, drop, length}
use Rattle.std.specs.Vec.{vec_len, vec_capacity}
use Rattle.x509_name.specs.Reading.{IsPosition, with_front, reading}
use Rattle.x509_name.specs.declared.text.escapes.Position.TheVariants.{Between}
use Rattle.x509_name.proofs.text.escapes.unescape.Given as goal

abbrev pub invariant-loop-byte : goal.invariant-loop-byte
invariant-loop-byte l = record {
  at : IsPosition l.position;
  so_far : with_front l.bytes.items (reading (drop l.byte-index l.text) l.position) ≡ reading l.text Between;
  within : vec_len l.bytes ≤ l.byte-index;
  room : vec_capacity l.bytes ≡ length l.text;
}
