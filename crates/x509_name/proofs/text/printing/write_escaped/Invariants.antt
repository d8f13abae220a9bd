use Rattle.std.proofs.Common.{◌≡◌, ◌≤◌, ◌++◌, ℕ, List, nat_eq, drop}
use Rattle.std.specs.Fmt.{HasWritten, IsPlainFormatter}
use Rattle.std.specs.List.{flat_map, slice_range}
use Rattle.std.specs.Str.{IsCharBoundary}
use Rattle.x509_name.specs.Escapes.{item_text, escaped}
use Rattle.x509_name.proofs.PrintedText.{items_from}
use Rattle.x509_name.proofs.text.printing.write_escaped.Given as goal

abbrev pub invariant-loop-i : goal.invariant-loop-i
invariant-loop-i g l = record {
  before : l.start ≤ l.i;
  boundary : IsCharBoundary l.text l.start;
  writes : IsPlainFormatter l.fn.f
      → (done : List ℕ) × HasWritten g.W.Write.write_str_gives l.fn.f done l.f
      × (done ++ (slice_range l.text l.start l.i ++ flat_map item_text (items_from (nat_eq l.i 0) (drop l.i l.text))) ≡ escaped l.text);
}
