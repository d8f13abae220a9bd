-- Extension: extn_id: OBJECT IDENTIFIER, critical: BOOLEAN=FALSE, extn_value: OCTET STRING (RFC 5280 4.1, 4.2)
-- Extensions: list Extension (RFC 5280 4.1.2.9)
use Rattle.std.specs.Prelude.{ℕ, Bool, List, refl}
use Rattle.x509_der.specs.declared.error.ErrorKind.{ErrorKind}
use Rattle.x509_der.specs.declared.tag.Tag.TheVariants.{Sequence}
use Rattle.x509_der.specs.Form.{Form, IsForm, Contents, IsContents, universal}
use Rattle.x509_der.specs.FormLaws.{universal_lawful}
use Rattle.x509_der.specs.Boolean.{boolean}
use Rattle.x509_der.specs.Frames.{Part, required, defaulted, ◌⊗◌, fields}
use Rattle.x509_der.specs.DefaultValues.{boolean_default}
use Rattle.x509_der.specs.List.{list_of}
use Rattle.x509_der.specs.ListLaws.{list_lawful}
use Rattle.x509_der.specs.PartRules.{part_rules}
use Rattle.x509_der.specs.ObjectIdentifierForm.{object_identifier, object_identifier_lawful}
use Rattle.x509_prim.specs.OctetString.{octet_string, octet_string_lawful, octet_string_ordered}
use Rattle.x509_ext.specs.declared.extension.Extension.{Extension}
use Rattle.x509_der.specs.Writing.{plain, writes}
use Rattle.x509_der.specs.Order.{Order, IsOrder, der_order}
use Rattle.x509_der.specs.Ordered.{by_bytes, by_members}
use Rattle.x509_der.specs.PartOrder.{PartOrder, by_parts, by_required, by_default, ◌⊕◌, plain_parts_ordered}
use Rattle.x509_der.specs.OrderRules.{order_rules}
use Rattle.x509_der.specs.ListOrder.{list_ordered}

unfoldable pub extension_fields : Part (List ℕ × (Bool × List ℕ))
extension_fields = required object_identifier ⊗ (defaulted boolean_default boolean ⊗ required octet_string)

abbrev pub extension_contents : Contents Extension
extension_contents = fields (λ e. (e.extn_id, (e.critical, e.extn_value))) (λ (extn_id, (critical, extn_value)). record { extn_id = extn_id; critical = critical; extn_value = extn_value }) extension_fields

abbrev pub extension : Form Extension
extension = universal Sequence extension_contents

abbrev pub extensions : Form (List Extension)
extensions = universal Sequence (list_of extension)

pub extension_contents_lawful : {R : ErrorKind → Type 0} → IsContents R extension_contents
unfolding extension_fields
extension_contents_lawful = search (part_rules, object_identifier_lawful, octet_string_lawful) depth 20

pub extension_lawful : {R : ErrorKind → Type 0} → IsForm R extension
extension_lawful = universal_lawful Sequence extension_contents extension_contents_lawful

pub extensions_lawful : {R : ErrorKind → Type 0} → IsForm R extensions
extensions_lawful = universal_lawful Sequence _ (list_lawful extension extension_lawful)

-- ---- the byte order

abbrev pub extension_cmp : PartOrder (List ℕ × (Bool × List ℕ))
extension_cmp = by_required object_identifier plain (by_bytes object_identifier) ⊕ (by_default boolean_default boolean (by_bytes boolean) ⊕ by_required octet_string plain (by_bytes octet_string))

abbrev pub extension_order : Order Extension
extension_order = by_parts (λ e. (e.extn_id, (e.critical, e.extn_value))) extension_cmp

pub extension_ordered : IsOrder extension (writes plain) extension_order
unfolding extension_fields
extension_ordered = plain_parts_ordered Sequence _ _ extension_cmp (λ v. refl) refl (search (order_rules, octet_string_ordered) depth 20)

abbrev pub extensions_order : Order (List Extension)
extensions_order = by_members (der_order extension (writes plain) extension_order)

pub extensions_ordered : IsOrder extensions (writes plain) extensions_order
extensions_ordered = list_ordered extension plain extension_order extension_ordered
