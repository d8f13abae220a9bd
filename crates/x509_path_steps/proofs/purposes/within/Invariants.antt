use Rattle.std.proofs.Common.{◌≡◌, filter, take}
use Rattle.x509_path_steps.proofs.purposes.within.Given as goal
use Rattle.x509_policy.specs.Values.{has}
use Rattle.x509_policy.specs.Views.{octets_of}

abbrev pub invariant-loop-purpose : goal.invariant-loop-purpose
invariant-loop-purpose l = octets_of l.found.items ≡ filter (λ p. has l.set p) (octets_of (take l.purpose-index l.purposes))
