use Rattle.std.proofs.Common.{◌≤◌, length}
use Rattle.x509_tool_run.specs.Transfer.{Moves}
use Rattle.x509_tool_run.proofs.input.read_input.Given as goal

-- so many reads, each of at least one byte, gave what is kept, and it is no longer than an input may be
abbrev pub invariant-loop-reads : goal.invariant-loop-reads
invariant-loop-reads g l = record {
  came : Moves g.R.Source.gives l.fn.reader l._reads l.input.items l.reader;
  short : length l.input.items ≤ 16777216;
}
