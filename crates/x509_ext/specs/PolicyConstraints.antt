-- PolicyConstraints: require_explicit_policy: [0]u32?, inhibit_policy_mapping: [1]u32? (RFC 5280 4.2.1.11)
use Rattle.std.specs.Prelude.{ℕ, ◌^◌, Option, refl}
use Rattle.x509_der.specs.declared.error.ErrorKind.{ErrorKind}
use Rattle.x509_der.specs.Form.{Form, Contents, IsContents, universal}
use Rattle.x509_der.specs.Natural.{natural}
use Rattle.x509_der.specs.Frames.{Part, implicit, optional, ◌⊗◌, fields}
use Rattle.x509_der.specs.PartRules.{part_rules}
use Rattle.x509_ext.specs.declared.pkix.policy_constraints.PolicyConstraints.{PolicyConstraints}
use Rattle.x509_der.specs.declared.tag.Tag.TheVariants.{Sequence}
use Rattle.x509_der.specs.Writing.{plain, writes}
use Rattle.x509_der.specs.Order.{Order, IsOrder}
use Rattle.x509_der.specs.Ordered.{by_bytes}
use Rattle.x509_der.specs.PartOrder.{PartOrder, by_parts, by_optional, ◌⊕◌, plain_parts_ordered}
use Rattle.x509_der.specs.OrderRules.{order_rules}

unfoldable pub policy_constraints_fields : Part (Option ℕ × Option ℕ)
policy_constraints_fields = optional (implicit 0 (natural (2 ^ 32))) ⊗ optional (implicit 1 (natural (2 ^ 32)))

abbrev pub policy_constraints_contents : Contents PolicyConstraints
policy_constraints_contents = fields (λ c. (c.require_explicit_policy, c.inhibit_policy_mapping)) (λ (require_explicit_policy, inhibit_policy_mapping). record { require_explicit_policy = require_explicit_policy; inhibit_policy_mapping = inhibit_policy_mapping }) policy_constraints_fields

abbrev pub policy_constraints : Form PolicyConstraints
policy_constraints = universal Sequence policy_constraints_contents

pub policy_constraints_contents_lawful : {R : ErrorKind → Type 0} → IsContents R policy_constraints_contents
unfolding policy_constraints_fields
policy_constraints_contents_lawful = search (part_rules) depth 20

-- ---- the byte order

abbrev pub policy_constraints_cmp : PartOrder (Option ℕ × Option ℕ)
policy_constraints_cmp = by_optional (implicit 0 (natural (2 ^ 32))) plain (by_bytes (natural (2 ^ 32))) ⊕ by_optional (implicit 1 (natural (2 ^ 32))) plain (by_bytes (natural (2 ^ 32)))

abbrev pub policy_constraints_order : Order PolicyConstraints
policy_constraints_order = by_parts (λ c. (c.require_explicit_policy, c.inhibit_policy_mapping)) policy_constraints_cmp

pub policy_constraints_ordered : IsOrder policy_constraints (writes plain) policy_constraints_order
unfolding policy_constraints_fields
policy_constraints_ordered = plain_parts_ordered Sequence _ _ policy_constraints_cmp (λ v. refl) refl (search (order_rules) depth 20)
