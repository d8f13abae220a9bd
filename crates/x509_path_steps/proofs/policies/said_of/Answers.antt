use Rattle.std.proofs.Common.{refl, subst, sym}
use Rattle.x509_ext.specs.CertificatePolicies.{certificate_policies}
use Rattle.x509_ext.specs.Identifiers.{id_ce}
use Rattle.x509_ext.specs.InhibitAnyPolicy.{inhibit_any_policy}
use Rattle.x509_ext.specs.PolicyConstraints.{policy_constraints}
use Rattle.x509_ext.specs.PolicyMapping.{policy_mappings}
use Rattle.x509_path_steps.proofs.policies.said_of.Goals as goal
use Rattle.x509_path_steps.specs.Says.{IsFound}
use Rattle.x509_path_steps.specs.Steps.{NoneUnreadable}

pub returns : goal.returns
returns c = λ certificate own same spelled.
    let readable = subst NoneUnreadable (sym same) spelled in
    let policies = c.in_ok-policies.ensures readable in
    let mappings = c.in_ok-mappings.ensures readable in
    record {
      policies = policies.0;
      mappings = mappings.0;
      constraints = c.payload-constraints.result;
      inhibit = c.payload-inhibit.result;
      has_policies = subst (λ es. IsFound certificate_policies (id_ce 32) es policies.0) same policies.1;
      has_mappings = subst (λ es. IsFound policy_mappings (id_ce 33) es mappings.0) same mappings.1;
      has_constraints = subst (λ es. IsFound policy_constraints (id_ce 36) es c.payload-constraints.result) same c.payload-constraints.ensures;
      has_inhibit = subst (λ es. IsFound inhibit_any_policy (id_ce 54) es c.payload-inhibit.result) same c.payload-inhibit.ensures;
      are_policies = policies.2;
      are_mappings = mappings.2;
      is_explicit = refl;
      is_mapping = refl;
      is_any = refl;
      is_own = own;
    }
