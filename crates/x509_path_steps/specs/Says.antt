-- What a certificate says of policies (RFC 5280 4.2.1.4, 4.2.1.5, 4.2.1.11, 4.2.1.14).
use Rattle.std.specs.Prelude.{◌≡◌, ◌↔◌, ℕ, true, List, [], map, Option, Some, None}
use Rattle.std.specs.List.{AllZip}
use Rattle.std.specs.Option.{option_map}
use Rattle.x509_der.specs.Form.{Form}
use Rattle.x509_ext.specs.CertificatePolicies.{certificate_policies}
use Rattle.x509_ext.specs.Identifiers.{id_ce}
use Rattle.x509_ext.specs.InhibitAnyPolicy.{inhibit_any_policy}
use Rattle.x509_ext.specs.PolicyConstraints.{policy_constraints}
use Rattle.x509_ext.specs.PolicyMapping.{policy_mappings}
use Rattle.x509_ext.specs.declared.extension.Extension.{Extension}
use Rattle.x509_ext.specs.declared.pkix.certificate_policies.CertificatePolicies.{CertificatePolicies}
use Rattle.x509_ext.specs.declared.pkix.inhibit_any_policy.InhibitAnyPolicy.{InhibitAnyPolicy}
use Rattle.x509_ext.specs.declared.pkix.policy_constraints.PolicyConstraints.{PolicyConstraints}
use Rattle.x509_ext.specs.declared.pkix.policy_mapping.PolicyMappings.{PolicyMappings}
use Rattle.x509_match.specs.Matching.{NamesMatch}
use Rattle.x509_path.specs.Certificates.{Certificate, HasPayload, extensions_of}
use Rattle.x509_policy.specs.Values as policies
use Rattle.x509_policy.specs.Values.{Mapping, Policy}

-- the value of the one extension with the identifier that can be read, none where there isn't one
abbrev pub IsFound : {T : Type 0} → Form T → List ℕ → List Extension → Option T → Type 0
IsFound {T} form oid extensions found = (value : T) → HasPayload form oid extensions value ↔ (found ≡ Some value)

-- the policies, without qualifiers
abbrev pub identifiers : CertificatePolicies → List Policy
identifiers found = map (λ information. information.policy_identifier) found.0

abbrev pub mappings_of : Option PolicyMappings → List Mapping
mappings_of None = []
mappings_of (Some found) = map (λ m. record { issuer_domain_policy = m.issuer_domain_policy; subject_domain_policy = m.subject_domain_policy }) found.0

abbrev pub explicit_policy_of : Option PolicyConstraints → Option ℕ
explicit_policy_of None = None
explicit_policy_of (Some found) = found.require_explicit_policy

abbrev pub mapping_inhibit_of : Option PolicyConstraints → Option ℕ
mapping_inhibit_of None = None
mapping_inhibit_of (Some found) = found.inhibit_policy_mapping

abbrev pub any_policy_inhibit_of : Option InhibitAnyPolicy → Option ℕ
any_policy_inhibit_of None = None
any_policy_inhibit_of (Some found) = Some found.0

-- The certificate says that. It is self-issued where its subject matches its issuer (6.1).
pub record Says (c : Certificate) (said : policies.Certificate) : Type 0 where
  pub policies : Option CertificatePolicies
  pub mappings : Option PolicyMappings
  pub constraints : Option PolicyConstraints
  pub inhibit : Option InhibitAnyPolicy
  pub has_policies : IsFound certificate_policies (id_ce 32) (extensions_of c) policies
  pub has_mappings : IsFound policy_mappings (id_ce 33) (extensions_of c) mappings
  pub has_constraints : IsFound policy_constraints (id_ce 36) (extensions_of c) constraints
  pub has_inhibit : IsFound inhibit_any_policy (id_ce 54) (extensions_of c) inhibit
  pub are_policies : said.policies ≡ option_map identifiers policies
  pub are_mappings : said.mappings ≡ mappings_of mappings
  pub is_explicit : said.require_explicit_policy ≡ explicit_policy_of constraints
  pub is_mapping : said.inhibit_policy_mapping ≡ mapping_inhibit_of constraints
  pub is_any : said.inhibit_any_policy ≡ any_policy_inhibit_of inhibit
  pub is_own : (said.is_self_issued ≡ true) ↔ NamesMatch c.tbs_certificate.subject c.tbs_certificate.issuer

-- each of the certificates says that
abbrev pub Say : List Certificate → List policies.Certificate → Type 0
Say = AllZip Says
