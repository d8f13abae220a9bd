use Rattle.std.proofs.Common.{◌≢◌}
use Rattle.std.specs.List.{AllWithin}
use Rattle.x509_test_rows_run.proofs.row.place_of.Given as goal

-- none of the bytes so far is the one
abbrev pub invariant-loop-at : goal.invariant-loop-at
invariant-loop-at l = AllWithin (λ x. x ≢ l.byte) l.bytes 0 l.at
