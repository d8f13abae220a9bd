use Rattle.std.proofs.Common.{◌≡◌, ◌++◌, length, string_bytes}
use Rattle.std.specs.Str.{IsUtf8}
use Rattle.x509_text.specs.Lines.{shown}
use Rattle.x509_text.proofs.line.write_shown.Given as goal

abbrev pub invariant-loop-rest : goal.invariant-loop-rest
invariant-loop-rest l = record {
  utf8 : IsUtf8 l.rest;
  so_far : string_bytes l.out ++ shown l.style l.rest ≡ string_bytes l.fn.out ++ shown l.style l.text;
}

abbrev pub decreases-loop-rest : goal.decreases-loop-rest
decreases-loop-rest l = length l.rest
