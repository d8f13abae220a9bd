-- AlgorithmIdentifier: oid: OBJECT IDENTIFIER, parameters: ANY? (RFC 5280 4.1.1.2)
use Rattle.std.specs.Prelude.{ℕ, List, Option, refl}
use Rattle.x509_der.specs.declared.error.ErrorKind.{ErrorKind}
use Rattle.x509_der.specs.declared.tag.Tag.TheVariants.{Sequence}
use Rattle.x509_der.specs.Form.{Form, IsForm, Contents, IsContents, universal}
use Rattle.x509_der.specs.FormLaws.{universal_lawful}
use Rattle.x509_der.specs.Writing.{plain, writes}
use Rattle.x509_der.specs.Order.{Order, IsOrder}
use Rattle.x509_der.specs.Ordered.{by_bytes}
use Rattle.x509_der.specs.declared.any.Any.{Any}
use Rattle.x509_der.specs.Any.{any, any_lawful, any_ordered}
use Rattle.x509_der.specs.Frames.{Part, required, optional, ◌⊗◌, fields}
use Rattle.x509_der.specs.PartRules.{part_rules}
use Rattle.x509_der.specs.FieldsOrder.{by_last_optional, last_optional_ordered}
use Rattle.x509_der.specs.ObjectIdentifierForm.{object_identifier, object_identifier_lawful, object_identifier_ordered}
use Rattle.x509_base.specs.declared.algorithm_identifier.AlgorithmIdentifier.{AlgorithmIdentifier}

unfoldable pub algorithm_identifier_fields : Part (List ℕ × Option Any)
algorithm_identifier_fields = required object_identifier ⊗ optional any

abbrev pub algorithm_identifier_contents : Contents AlgorithmIdentifier
algorithm_identifier_contents = fields (λ a. (a.oid, a.parameters)) (λ (oid, parameters). record { oid = oid; parameters = parameters }) algorithm_identifier_fields

abbrev pub algorithm_identifier : Form AlgorithmIdentifier
algorithm_identifier = universal Sequence algorithm_identifier_contents

pub algorithm_identifier_contents_lawful : {R : ErrorKind → Type 0} → IsContents R algorithm_identifier_contents
unfolding algorithm_identifier_fields
algorithm_identifier_contents_lawful = search (part_rules, object_identifier_lawful, any_lawful) depth 20

pub algorithm_identifier_lawful : {R : ErrorKind → Type 0} → IsForm R algorithm_identifier
algorithm_identifier_lawful = universal_lawful Sequence algorithm_identifier_contents algorithm_identifier_contents_lawful

-- ---- the byte order

-- by the name, then by the parameters
abbrev pub algorithm_identifier_order : Order AlgorithmIdentifier
algorithm_identifier_order = by_last_optional (λ a. (a.oid, a.parameters)) object_identifier (by_bytes object_identifier) any (by_bytes any)

pub algorithm_identifier_ordered : IsOrder algorithm_identifier (writes plain) algorithm_identifier_order
unfolding algorithm_identifier_fields
algorithm_identifier_ordered = last_optional_ordered (λ a. (a.oid, a.parameters)) (λ (oid, parameters). record { oid = oid; parameters = parameters }) object_identifier (by_bytes object_identifier) any (by_bytes any) (λ a. refl) (object_identifier_ordered (writes plain)) (any_ordered (writes plain))
