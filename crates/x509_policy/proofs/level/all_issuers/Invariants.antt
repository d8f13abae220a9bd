use Rattle.std.proofs.Common.{◌≡◌, map, take}
use Rattle.x509_policy.specs.Views.{mapping_of, octets_of}
use Rattle.x509_policy.proofs.level.all_issuers.Given as goal

abbrev pub invariant-loop-mapping : goal.invariant-loop-mapping
invariant-loop-mapping l = octets_of l.found.items ≡ map (λ m. m.issuer_domain_policy) (map mapping_of (take l.mapping-index l.mappings))
