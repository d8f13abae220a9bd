use Rattle.std.proofs.Common.{take}
use Rattle.std.specs.List.{All}
use Rattle.x509_lint.specs.Values.{HasDistinctTypes}
use Rattle.x509_lint.proofs.repeats.are_rdns_distinct.Given as goal

abbrev pub invariant-loop-rdn : goal.invariant-loop-rdn
invariant-loop-rdn l = All HasDistinctTypes (take l.rdn-index l.rdns)
