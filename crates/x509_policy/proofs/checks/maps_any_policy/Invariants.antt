use Rattle.std.proofs.Common.{◌≡◌, drop, map}
use Rattle.x509_policy.specs.Values.{maps_any_policy}
use Rattle.x509_policy.specs.Views.{mapping_of}
use Rattle.x509_policy.proofs.checks.maps_any_policy.Given as goal

abbrev pub invariant-loop-mapping : goal.invariant-loop-mapping
invariant-loop-mapping l = maps_any_policy (map mapping_of l.mappings) ≡ maps_any_policy (map mapping_of (drop l.mapping-index l.mappings))
