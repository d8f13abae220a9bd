use Rattle.std.proofs.Common.{◌≤◌, ◌-◌, length}
use Rattle.x509_text.specs.Runs.{run_len}
use Rattle.x509_text.proofs.line.run_len.Given as goal

abbrev pub invariant-loop-at : goal.invariant-loop-at
invariant-loop-at l = (l.at ≤ length l.bytes) × (l.at ≤ run_len l.style l.bytes)

abbrev pub decreases-loop-at : goal.decreases-loop-at
decreases-loop-at l = length l.bytes - l.at
