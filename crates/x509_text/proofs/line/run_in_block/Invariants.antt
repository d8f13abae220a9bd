use Rattle.std.proofs.Common.{◌≡◌, ◌≤◌, ◌+◌, ◌-◌}
use Rattle.x509_text.specs.Runs.{run_len}
use Rattle.x509_text.proofs.line.run_in_block.Given as goal

abbrev pub invariant-loop-len : goal.invariant-loop-len
invariant-loop-len l = record {
  within : l.len ≤ 16;
  more : run_len l.style l.bytes ≡ l.len + run_len l.style l.rest;
}

abbrev pub decreases-loop-len : goal.decreases-loop-len
decreases-loop-len l = 16 - l.len
