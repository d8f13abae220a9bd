-- Policies of certificates, by their places, and what is asked of them (RFC 5280 4.2.1.4, 4.2.1.5, 4.2.1.11).
use Rattle.std.specs.Prelude.{ℕ, List, ◌++◌}
use Rattle.x509_c_calls.specs.Optional.{IsPerhapsAt, IsNumber}
use Rattle.x509_c_calls.specs.declared.payloads.policy.MappingView.{MappingView}
use Rattle.x509_c_calls.specs.declared.payloads.policy.PolicyConstraintsView.{PolicyConstraintsView}
use Rattle.x509_c_calls.specs.declared.payloads.policy.PolicyView.{PolicyView}
use Rattle.x509_c_calls.specs.declared.payloads.policy.QualifierView.{QualifierView}
use Rattle.x509_c_calls.specs.Place.{IsAt}
use Rattle.x509_der.specs.ObjectIdentifierForm.{object_identifier}
use Rattle.x509_der.specs.declared.tag.Tag.TheVariants.{Sequence}
use Rattle.x509_der.specs.Any.{any}
use Rattle.x509_der.specs.Frames.{optional_octets}
use Rattle.x509_der.specs.List.{list_of}
use Rattle.x509_der.specs.Form.{Form, spelling, universal}
use Rattle.x509_ext.specs.PolicyQualifierInfo.{policy_qualifier_info}
use Rattle.x509_ext.specs.declared.pkix.policy_constraints.PolicyConstraints.{PolicyConstraints}
use Rattle.x509_ext.specs.declared.pkix.policy_information.PolicyInformation.{PolicyInformation}
use Rattle.x509_ext.specs.declared.pkix.policy_information.PolicyQualifierInfo.{PolicyQualifierInfo}
use Rattle.x509_ext.specs.declared.pkix.policy_mapping.PolicyMapping.{PolicyMapping}

-- SEQUENCE OF PolicyQualifierInfo
abbrev pub policy_qualifiers : Form (List PolicyQualifierInfo)
policy_qualifiers = universal Sequence (list_of policy_qualifier_info)

-- what the view says of a policy in these bytes, behind which those others stand
pub record IsPolicy (bytes : List ℕ) (policy : PolicyInformation) (behind : List ℕ) (view : PolicyView) : Type 0 where
  pub identifier : IsAt policy.policy_identifier (optional_octets (spelling policy_qualifiers) policy.policy_qualifiers ++ behind) bytes view.identifier
  pub qualifiers : IsPerhapsAt (spelling policy_qualifiers) policy.policy_qualifiers behind bytes view.qualifiers

-- the same of what qualifies a policy
pub record IsQualifier (bytes : List ℕ) (info : PolicyQualifierInfo) (behind : List ℕ) (view : QualifierView) : Type 0 where
  pub identifier : IsAt info.policy_qualifier_id (optional_octets (spelling any) info.qualifier ++ behind) bytes view.identifier
  pub qualifier : IsPerhapsAt (spelling any) info.qualifier behind bytes view.qualifier

-- the same of how a policy maps
pub record IsMapping (bytes : List ℕ) (mapping : PolicyMapping) (behind : List ℕ) (view : MappingView) : Type 0 where
  pub issuer_policy : IsAt mapping.issuer_domain_policy (spelling object_identifier mapping.subject_domain_policy ++ behind) bytes view.issuer_policy
  pub subject_policy : IsAt mapping.subject_domain_policy behind bytes view.subject_policy

-- what is asked of the policies of a path
pub record IsPolicyConstraints (constraints : PolicyConstraints) (view : PolicyConstraintsView) : Type 0 where
  pub require_explicit_policy : IsNumber constraints.require_explicit_policy view.has_require_explicit_policy view.require_explicit_policy
  pub inhibit_policy_mapping : IsNumber constraints.inhibit_policy_mapping view.has_inhibit_policy_mapping view.inhibit_policy_mapping
