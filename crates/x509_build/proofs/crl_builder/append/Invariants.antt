-- The items so far stand behind the others.
use Rattle.std.proofs.Common.{◌≡◌, ◌++◌}
use Rattle.x509_build.proofs.crl_builder.append.Given as goal

abbrev pub invariant-loop-item : goal.invariant-loop-item
invariant-loop-item g l = l.list ≡ l.initial.list ++ l.yielded
