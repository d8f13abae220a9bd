-- Names as they are encoded (X.690 8.10, 8.12): elements, one after the other.
use Rattle.std.specs.Prelude.{◌≡◌, ℕ, List, ◌++◌}
use Rattle.x509_der.specs.Form.{spelling}
use Rattle.x509_der.specs.List.{all_good, joined}
use Rattle.x509_der.specs.Any.{any}
use Rattle.x509_der.specs.ObjectIdentifierForm.{object_identifier}
use Rattle.x509_name.specs.Names.{relative_distinguished_name}
use Rattle.x509_name.specs.TypeAndValue.{attribute_type_and_value}
use Rattle.x509_name.specs.declared.attr.type_and_value.AttributeTypeAndValue.{AttributeTypeAndValue}
use Rattle.x509_match.specs.declared.lent.AttributeRef.{AttributeRef}

-- the octets are the elements of the attributes
abbrev pub AreAttributes : List ℕ → List AttributeTypeAndValue → Type 0
AreAttributes octets attributes = all_good attribute_type_and_value.good attributes × (octets ≡ joined (spelling attribute_type_and_value) attributes)

-- the octets are the elements of the RDNs
abbrev pub AreRdns : List ℕ → List (List AttributeTypeAndValue) → Type 0
AreRdns octets rdns = all_good relative_distinguished_name.good rdns × (octets ≡ joined (spelling relative_distinguished_name) rdns)

-- the octets are those of the fields of the attribute
abbrev pub IsAttribute : List ℕ → AttributeTypeAndValue → Type 0
IsAttribute octets a = object_identifier.good a.oid × any.good a.value × (octets ≡ spelling object_identifier a.oid ++ spelling any a.value)

-- what is lent of the attribute
abbrev pub LendsAttribute : AttributeRef → AttributeTypeAndValue → Type 0
LendsAttribute lent a = object_identifier.good a.oid × (lent.oid.now ≡ a.oid) × (lent.tag ≡ a.value.tag) × (lent.value.now ≡ a.value.value)
