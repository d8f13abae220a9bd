use Rattle.std.proofs.Common.{◌≡◌, take}
use Rattle.x509_crl_index.specs.Split.{serials}
use Rattle.x509_lint.proofs.repeats.are_serials_distinct.Given as goal

abbrev pub invariant-loop-entry : goal.invariant-loop-entry
invariant-loop-entry l = l.numbers.items ≡ serials (take l.entry-index l.entries)
