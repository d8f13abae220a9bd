-- HardwareModuleName: hw_type: OBJECT IDENTIFIER, hw_serial_num: OCTET STRING (RFC 4108 5)
use Rattle.std.specs.Prelude.{◌≡◌, ◌≢◌, ℕ, ◌⊎◌, List, Option, None, Result, Ok, IfOk, IfErr, IsSomeAnd, refl}
use Rattle.x509_der.specs.Element.{element}
use Rattle.x509_der.specs.Tag.{octet_of}
use Rattle.x509_der.specs.declared.error.Error.{Error}
use Rattle.x509_der.specs.declared.error.ErrorKind.{ErrorKind}
use Rattle.x509_der.specs.declared.error.ErrorKind.TheVariants.{Memory, Malformed}
use Rattle.x509_der.specs.declared.tag.Tag.TheVariants.{Sequence}
use Rattle.x509_der.specs.Form.{Form, Contents, IsContents, universal, spelling}
use Rattle.x509_der.specs.Frames.{Part, required, ◌⊗◌, fields}
use Rattle.x509_der.specs.PartRules.{part_rules}
use Rattle.x509_der.specs.declared.any.Any.{Any}
use Rattle.x509_der.specs.ObjectIdentifierForm.{object_identifier, object_identifier_lawful}
use Rattle.x509_prim.specs.OctetString.{octet_string, octet_string_lawful, octet_string_ordered}
use Rattle.x509_ext.specs.Identifiers.{id_pkix}
use Rattle.x509_ext.specs.declared.pkix.name.hardware_module_name.HardwareModuleName.{HardwareModuleName}
use Rattle.x509_ext.specs.declared.pkix.name.other_name.OtherName.{OtherName}
use Rattle.x509_der.specs.Writing.{plain, writes}
use Rattle.x509_der.specs.Order.{Order, IsOrder}
use Rattle.x509_der.specs.Ordered.{by_bytes}
use Rattle.x509_der.specs.PartOrder.{PartOrder, by_parts, by_required, ◌⊕◌, plain_parts_ordered}
use Rattle.x509_der.specs.OrderRules.{order_rules}

unfoldable pub hardware_module_name_fields : Part (List ℕ × List ℕ)
hardware_module_name_fields = required object_identifier ⊗ required octet_string

abbrev pub hardware_module_name_contents : Contents HardwareModuleName
hardware_module_name_contents = fields (λ h. (h.hw_type, h.hw_serial_num)) (λ (hw_type, hw_serial_num). record { hw_type = hw_type; hw_serial_num = hw_serial_num }) hardware_module_name_fields

abbrev pub hardware_module_name : Form HardwareModuleName
hardware_module_name = universal Sequence hardware_module_name_contents

pub hardware_module_name_contents_lawful : {R : ErrorKind → Type 0} → IsContents R hardware_module_name_contents
unfolding hardware_module_name_fields
hardware_module_name_contents_lawful = search (part_rules, object_identifier_lawful, octet_string_lawful) depth 20

-- ---- as names of another kind

-- the content octets of 1.3.6.1.5.5.7.8.4 (id-on-hardwareModuleName; RFC 4108 5)
abbrev pub id_on_hardware_module_name : List ℕ
id_on_hardware_module_name = id_pkix 8 4

-- the element is that of the module's name
abbrev pub IsModuleIn : HardwareModuleName → Any → Type 0
IsModuleIn hardware any = element (octet_of any.tag) any.value ≡ spelling hardware_module_name hardware

-- The answer is the module whose element the value is, where the identifier says that it is one; where the value is that of
-- none, a refusal. A name of another kind is none. Memory may be refused for a name of this kind.
pub record ReadsHardwareModule (other : OtherName) (answer : Result (Option HardwareModuleName) Error) : Type 0 where
  pub another : other.type_id ≢ id_on_hardware_module_name → answer ≡ Ok None
  pub found : other.type_id ≡ id_on_hardware_module_name → IfOk answer (λ found. IsSomeAnd found (λ hardware. hardware_module_name.good hardware × IsModuleIn hardware other.value))
  pub every : other.type_id ≡ id_on_hardware_module_name → (hardware : HardwareModuleName) → hardware_module_name.good hardware → IsModuleIn hardware other.value → IfErr answer (λ e. e.kind ≡ Memory)
  pub refused : IfErr answer (λ e. (other.type_id ≡ id_on_hardware_module_name) × ((e.kind ≡ Memory) ⊎ (e.kind ≡ Malformed)))

-- ---- the byte order

abbrev pub hardware_module_name_cmp : PartOrder (List ℕ × List ℕ)
hardware_module_name_cmp = by_required object_identifier plain (by_bytes object_identifier) ⊕ by_required octet_string plain (by_bytes octet_string)

abbrev pub hardware_module_name_order : Order HardwareModuleName
hardware_module_name_order = by_parts (λ h. (h.hw_type, h.hw_serial_num)) hardware_module_name_cmp

pub hardware_module_name_ordered : IsOrder hardware_module_name (writes plain) hardware_module_name_order
unfolding hardware_module_name_fields
hardware_module_name_ordered = plain_parts_ordered Sequence _ _ hardware_module_name_cmp (λ v. refl) refl (search (order_rules, octet_string_ordered) depth 20)
