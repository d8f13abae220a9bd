use Rattle.std.proofs.Common.{◌≡◌, bytes_eq, length, not}
use Rattle.std.specs.List.{list_any}
use Rattle.x509_ext.specs.declared.pkix.policy_mapping.PolicyMapping.{PolicyMapping}
use Rattle.x509_lint.proofs.asserted.lack_one.Given as goal

abbrev pub invariant-loop-mappings : goal.invariant-loop-mappings
invariant-loop-mappings l =
    list_any (λ (m : PolicyMapping). not (list_any (λ o. bytes_eq o.now m.issuer_domain_policy) l.identifiers)) l.mappings
    ≡ list_any (λ (m : PolicyMapping). not (list_any (λ o. bytes_eq o.now m.issuer_domain_policy) l.identifiers)) l.initial.mappings

abbrev pub decreases-loop-mappings : goal.decreases-loop-mappings
decreases-loop-mappings l = length l.mappings
