use Rattle.std.proofs.Common.{◌≡◌, take}
use Rattle.x509_path_steps.proofs.purposes.octets.Given as goal
use Rattle.x509_policy.specs.Views.{octets_of}

abbrev pub invariant-loop-identifier : goal.invariant-loop-identifier
invariant-loop-identifier l = octets_of l.found.items ≡ take l.identifier-index l.identifiers
