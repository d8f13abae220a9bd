-- Lines of policies, and of what limits the certificates that may follow in a path (RFC 5280 4.2.1.4, 4.2.1.5, 4.2.1.10, 4.2.1.11, 4.2.1.14).
use Rattle.std.specs.Prelude.{ℕ, nat_eq, List, [], ◌++◌, Option, codes, if◌then◌else◌}
use Rattle.std.specs.List.{flat_map}
use Rattle.x509_ext.specs.declared.pkix.general_subtree.GeneralSubtree.{GeneralSubtree}
use Rattle.x509_ext.specs.declared.pkix.inhibit_any_policy.InhibitAnyPolicy.{InhibitAnyPolicy}
use Rattle.x509_ext.specs.declared.pkix.name_constraints.NameConstraints.{NameConstraints}
use Rattle.x509_ext.specs.declared.pkix.policy_constraints.PolicyConstraints.{PolicyConstraints}
use Rattle.x509_ext.specs.declared.pkix.policy_information.PolicyInformation.{PolicyInformation}
use Rattle.x509_ext.specs.declared.pkix.policy_information.PolicyQualifierInfo.{PolicyQualifierInfo}
use Rattle.x509_ext.specs.declared.pkix.policy_mapping.PolicyMapping.{PolicyMapping}
use Rattle.x509_text.specs.declared.line.Place.{Place}
use Rattle.x509_text.specs.GeneralNames.{general_name_lines}
use Rattle.x509_text.specs.Lines.{line, below}
use Rattle.x509_text.specs.Payloads.{optional}
use Rattle.x509_text.specs.Qualifiers.{qualifier_lines}
use Rattle.x509_text.specs.Values.{number_line, oid_line, optional_number}

-- ---- policies (RFC 5280 4.2.1.4, 4.2.1.5)

abbrev pub optional_qualifiers : Place → Option (List PolicyQualifierInfo) → List ℕ
optional_qualifiers at qualifiers = optional (λ qs. flat_map (qualifier_lines at) qs) qualifiers

-- PolicyInformation: the policy and its qualifiers
unfoldable pub policy_lines : Place → PolicyInformation → List ℕ
policy_lines at p = oid_line at (codes "policy") p.policy_identifier ++ optional_qualifiers (below at) p.policy_qualifiers

abbrev pub policies_lines : Place → List PolicyInformation → List ℕ
policies_lines at policies = flat_map (policy_lines at) policies

-- PolicyMapping: a policy of the issuer, and that of the subject which is its equal
unfoldable pub mapping_lines : Place → PolicyMapping → List ℕ
mapping_lines at m =
    oid_line at (codes "issuer domain policy") m.issuer_domain_policy
    ++ oid_line (below at) (codes "subject domain policy") m.subject_domain_policy

abbrev pub mappings_lines : Place → List PolicyMapping → List ℕ
mappings_lines at mappings = flat_map (mapping_lines at) mappings

-- ---- limits (RFC 5280 4.2.1.10, 4.2.1.11, 4.2.1.14)

unfoldable pub policy_constraints_lines : Place → PolicyConstraints → List ℕ
policy_constraints_lines at c =
    optional_number at (codes "require explicit policy") c.require_explicit_policy
    ++ optional_number at (codes "inhibit policy mapping") c.inhibit_policy_mapping

abbrev pub inhibit_any_policy_lines : Place → InhibitAnyPolicy → List ℕ
inhibit_any_policy_lines at inhibit = number_line at (codes "skip certificates") inhibit.0

-- the minimum where it isn't its default, 0
abbrev pub minimum_line : Place → ℕ → List ℕ
minimum_line at minimum = if nat_eq minimum 0 then [] else number_line at (codes "minimum") minimum

-- GeneralSubtree: its base, and how deep names may stand below that
unfoldable pub subtree_lines : Place → GeneralSubtree → List ℕ
subtree_lines at s =
    general_name_lines at s.base
    ++ (minimum_line (below at) s.minimum ++ optional_number (below at) (codes "maximum") s.maximum)

-- subtrees under a label
unfoldable pub labelled_subtrees : Place → List ℕ → List GeneralSubtree → List ℕ
labelled_subtrees at label subtrees = line at label [] ++ flat_map (subtree_lines (below at)) subtrees

abbrev pub optional_subtrees : Place → List ℕ → Option (List GeneralSubtree) → List ℕ
optional_subtrees at label subtrees = optional (labelled_subtrees at label) subtrees

unfoldable pub name_constraints_lines : Place → NameConstraints → List ℕ
name_constraints_lines at n =
    optional_subtrees at (codes "permitted") n.permitted_subtrees ++ optional_subtrees at (codes "excluded") n.excluded_subtrees
