-- PolicyMapping: issuer_domain_policy: OBJECT IDENTIFIER, subject_domain_policy: OBJECT IDENTIFIER (RFC 5280 4.2.1.5)
-- PolicyMappings: list PolicyMapping (RFC 5280 4.2.1.5)
use Rattle.std.specs.Prelude.{ℕ, List, refl}
use Rattle.x509_der.specs.declared.error.ErrorKind.{ErrorKind}
use Rattle.x509_der.specs.Form.{Form, Contents, IsContents, universal}
use Rattle.x509_der.specs.Frames.{Part, required, ◌⊗◌, fields}
use Rattle.x509_der.specs.PartRules.{part_rules}
use Rattle.x509_der.specs.ObjectIdentifierForm.{object_identifier, object_identifier_lawful}
use Rattle.x509_ext.specs.declared.pkix.policy_mapping.PolicyMapping.{PolicyMapping}
use Rattle.x509_der.specs.declared.tag.Tag.TheVariants.{Sequence}
use Rattle.x509_der.specs.List.{list_of}
use Rattle.x509_der.specs.Round.{Round, rounded}
use Rattle.x509_ext.specs.declared.pkix.policy_mapping.PolicyMappings.{PolicyMappings}
use Rattle.x509_der.specs.Writing.{plain, writes}
use Rattle.x509_der.specs.Order.{Order, IsOrder}
use Rattle.x509_der.specs.Ordered.{by_bytes}
use Rattle.x509_der.specs.PartOrder.{PartOrder, by_parts, by_required, ◌⊕◌, plain_parts_ordered}
use Rattle.x509_der.specs.OrderRules.{order_rules}

unfoldable pub policy_mapping_fields : Part (List ℕ × List ℕ)
policy_mapping_fields = required object_identifier ⊗ required object_identifier

abbrev pub policy_mapping_contents : Contents PolicyMapping
policy_mapping_contents = fields (λ m. (m.issuer_domain_policy, m.subject_domain_policy)) (λ (issuer_domain_policy, subject_domain_policy). record { issuer_domain_policy = issuer_domain_policy; subject_domain_policy = subject_domain_policy }) policy_mapping_fields

abbrev pub policy_mapping : Form PolicyMapping
policy_mapping = universal Sequence policy_mapping_contents

abbrev pub policy_mappings_round : Round PolicyMappings (List PolicyMapping)
policy_mappings_round = record { to = λ mappings. mappings.0; from = λ pairs. record { 0 = pairs }; back = λ mappings. refl; there = λ pairs. refl }

abbrev pub policy_mappings : Form PolicyMappings
policy_mappings = rounded policy_mappings_round Sequence (universal Sequence (list_of policy_mapping))

pub policy_mapping_contents_lawful : {R : ErrorKind → Type 0} → IsContents R policy_mapping_contents
unfolding policy_mapping_fields
policy_mapping_contents_lawful = search (part_rules, object_identifier_lawful) depth 20

-- ---- the byte order

abbrev pub policy_mapping_cmp : PartOrder (List ℕ × List ℕ)
policy_mapping_cmp = by_required object_identifier plain (by_bytes object_identifier) ⊕ by_required object_identifier plain (by_bytes object_identifier)

abbrev pub policy_mapping_order : Order PolicyMapping
policy_mapping_order = by_parts (λ m. (m.issuer_domain_policy, m.subject_domain_policy)) policy_mapping_cmp

pub policy_mapping_ordered : IsOrder policy_mapping (writes plain) policy_mapping_order
unfolding policy_mapping_fields
policy_mapping_ordered = plain_parts_ordered Sequence _ _ policy_mapping_cmp (λ v. refl) refl (search (order_rules) depth 20)
