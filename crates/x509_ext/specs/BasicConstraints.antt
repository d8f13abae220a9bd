-- BasicConstraints: ca: BOOLEAN=FALSE, path_len_constraint: u8? (RFC 5280 4.2.1.9)
use Rattle.std.specs.Prelude.{ℕ, ◌^◌, Bool, Option, refl}
use Rattle.x509_der.specs.declared.error.ErrorKind.{ErrorKind}
use Rattle.x509_der.specs.declared.tag.Tag.TheVariants.{Sequence}
use Rattle.x509_der.specs.Form.{Form, Contents, IsContents, universal}
use Rattle.x509_der.specs.Boolean.{boolean}
use Rattle.x509_der.specs.Natural.{natural}
use Rattle.x509_der.specs.Frames.{Part, optional, defaulted, ◌⊗◌, fields}
use Rattle.x509_der.specs.DefaultValues.{boolean_default}
use Rattle.x509_der.specs.PartRules.{part_rules}
use Rattle.x509_ext.specs.declared.pkix.basic_constraints.BasicConstraints.{BasicConstraints}
use Rattle.x509_der.specs.Writing.{plain, writes}
use Rattle.x509_der.specs.Order.{Order, IsOrder}
use Rattle.x509_der.specs.Ordered.{by_bytes}
use Rattle.x509_der.specs.PartOrder.{PartOrder, by_parts, by_optional, by_default, ◌⊕◌, plain_parts_ordered}
use Rattle.x509_der.specs.OrderRules.{order_rules}

unfoldable pub basic_constraints_fields : Part (Bool × Option ℕ)
basic_constraints_fields = defaulted boolean_default boolean ⊗ optional (natural (2 ^ 8))

abbrev pub basic_constraints_contents : Contents BasicConstraints
basic_constraints_contents = fields (λ b. (b.ca, b.path_len_constraint)) (λ (ca, path_len_constraint). record { ca = ca; path_len_constraint = path_len_constraint }) basic_constraints_fields

abbrev pub basic_constraints : Form BasicConstraints
basic_constraints = universal Sequence basic_constraints_contents

pub basic_constraints_contents_lawful : {R : ErrorKind → Type 0} → IsContents R basic_constraints_contents
unfolding basic_constraints_fields
basic_constraints_contents_lawful = search (part_rules) depth 20

-- ---- the byte order

abbrev pub basic_constraints_cmp : PartOrder (Bool × Option ℕ)
basic_constraints_cmp = by_default boolean_default boolean (by_bytes boolean) ⊕ by_optional (natural (2 ^ 8)) plain (by_bytes (natural (2 ^ 8)))

abbrev pub basic_constraints_order : Order BasicConstraints
basic_constraints_order = by_parts (λ b. (b.ca, b.path_len_constraint)) basic_constraints_cmp

pub basic_constraints_ordered : IsOrder basic_constraints (writes plain) basic_constraints_order
unfolding basic_constraints_fields
basic_constraints_ordered = plain_parts_ordered Sequence _ _ basic_constraints_cmp (λ v. refl) refl (search (order_rules) depth 20)
