-- What the fields of the crate's types say, as the definitions name it.
use Rattle.std.specs.Prelude.{ℕ, List, map}
use Rattle.std.specs.Borrow.{Bor}
use Rattle.std.specs.Option.{option_map}
use Rattle.x509_policy.specs.Values.{Policy, Mapping, Certificate, Settings}
use Rattle.x509_policy.specs.Path.{Counters}
use Rattle.x509_policy.specs.declared.counters.PolicyCounters.{PolicyCounters}
use Rattle.x509_policy.specs.declared.values.PolicyView.{PolicyView}
use Rattle.x509_policy.specs.declared.values.MappingView.{MappingView}
use Rattle.x509_policy.specs.declared.values.PolicySettings.{PolicySettings}

abbrev pub octets_of : List (Bor (List ℕ)) → List Policy
octets_of policies = map (λ p. p.now) policies

abbrev pub mapping_of : MappingView → Mapping
mapping_of m = record { issuer_domain_policy = m.issuer_domain_policy.now; subject_domain_policy = m.subject_domain_policy.now }

abbrev pub certificate_of : PolicyView → Certificate
certificate_of c = record {
  policies = option_map (λ s. octets_of s.now) c.policies;
  mappings = map mapping_of c.mappings.now;
  require_explicit_policy = c.require_explicit_policy;
  inhibit_policy_mapping = c.inhibit_policy_mapping;
  inhibit_any_policy = c.inhibit_any_policy;
  is_self_issued = c.is_self_issued;
}

abbrev pub settings_of : PolicySettings → Settings
settings_of s = record {
  user_initial_policy_set = octets_of s.user_initial_policy_set.now;
  initial_policy_mapping_inhibit = s.initial_policy_mapping_inhibit;
  initial_explicit_policy = s.initial_explicit_policy;
  initial_any_policy_inhibit = s.initial_any_policy_inhibit;
}

abbrev pub counters_of : PolicyCounters → Counters
counters_of k = record { explicit_policy = k.explicit_policy; policy_mapping = k.policy_mapping; inhibit_any_policy = k.inhibit_any_policy }
