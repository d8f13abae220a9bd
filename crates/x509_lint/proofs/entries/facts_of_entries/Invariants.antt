use Rattle.std.proofs.Common.{drop}
use Rattle.x509_lint.proofs.EntryWalks.{Walk}
use Rattle.x509_lint.proofs.entries.facts_of_entries.Given as goal

abbrev pub invariant-loop-entry : goal.invariant-loop-entry
invariant-loop-entry l = Walk l.found l.are_distinct (drop l.entry-index l.entries) l.entries
