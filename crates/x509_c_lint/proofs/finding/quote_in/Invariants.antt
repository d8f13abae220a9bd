use Rattle.std.proofs.Common.{take}
use Rattle.x509_c_lint.specs.FindingLines.{IsUnquoted}
use Rattle.x509_c_lint.proofs.finding.quote_in.Given as goal

abbrev pub invariant-loop-place : goal.invariant-loop-place
invariant-loop-place l = IsUnquoted (take l.place l.octets)
