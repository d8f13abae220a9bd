use Rattle.std.proofs.Common.{◌≡◌, ◌≤◌, ◌+◌, ◌++◌, length, string_bytes}
use Rattle.std.specs.Str.{IsUtf8}
use Rattle.x509_text.specs.Lines.{shown}
use Rattle.x509_text.proofs.line.write_few.Given as goal

abbrev pub invariant-loop-left : goal.invariant-loop-left
invariant-loop-left l = record {
  utf8 : IsUtf8 l.rest;
  so_far : string_bytes l.out ++ shown l.style l.rest ≡ string_bytes l.fn.out ++ shown l.style l.text;
  within : length l.rest + 16 ≤ length l.text + l.left;
}

abbrev pub decreases-loop-left : goal.decreases-loop-left
decreases-loop-left l = l.left
