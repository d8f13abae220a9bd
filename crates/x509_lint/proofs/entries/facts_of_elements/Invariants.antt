use Rattle.std.proofs.Common.{length}
use Rattle.x509_lint.proofs.EntryWalks.{ReadWalk}
use Rattle.x509_lint.proofs.entries.facts_of_elements.Given as goal

abbrev pub invariant-loop-rest : goal.invariant-loop-rest
invariant-loop-rest l = ReadWalk l.found l.are_distinct l.rest l.octets

abbrev pub decreases-loop-rest : goal.decreases-loop-rest
decreases-loop-rest l = length l.rest
