-- Lines of what a key may be used for, and of key identifiers (RFC 5280 4.2.1).
use Rattle.std.specs.Prelude.{ℕ, List, ◌++◌, Bool, Option, codes, if◌then◌else◌}
use Rattle.std.specs.List.{flat_map}
use Rattle.x509_base.specs.CivilTime.{CivilTime}
use Rattle.x509_der.specs.declared.any.Any.{Any}
use Rattle.x509_ext.specs.declared.pkix.authority_key_identifier.AuthorityKeyIdentifier.{AuthorityKeyIdentifier}
use Rattle.x509_ext.specs.declared.pkix.basic_constraints.BasicConstraints.{BasicConstraints}
use Rattle.x509_ext.specs.KeyUsage.{has_bit}
use Rattle.x509_ext.specs.declared.pkix.key_usage.KeyUsage.{KeyUsage}
use Rattle.x509_ext.specs.declared.pkix.private_key_usage_period.PrivateKeyUsagePeriod.{PrivateKeyUsagePeriod}
use Rattle.x509_ext.specs.declared.pkix.subject_key_identifier.SubjectKeyIdentifier.{SubjectKeyIdentifier}
use Rattle.x509_name.specs.declared.attr.attribute.Attribute.{Attribute}
use Rattle.x509_text.specs.declared.line.Place.{Place}
use Rattle.x509_text.specs.GeneralNames.{optional_names}
use Rattle.x509_text.specs.Lines.{line, line_where, below}
use Rattle.x509_text.specs.Payloads.{octets_line, optional}
use Rattle.x509_text.specs.Values.{any_line, moment_line, oid_line, optional_number, serial_line}

abbrev pub yes_or_no : Bool → List ℕ
yes_or_no is_so = if is_so then codes "yes" else codes "no"

-- KeyUsage (RFC 5280 4.2.1.3): the name of each bit that is set
abbrev pub usage_line : Place → List ℕ → Bool → List ℕ
usage_line at name is_set = line_where at (codes "usage") name is_set

-- those of the bits 0 to 4
unfoldable pub first_usages : Place → KeyUsage → List ℕ
first_usages at usage =
    usage_line at (codes "digitalSignature") (has_bit usage 0)
    ++ (usage_line at (codes "nonRepudiation") (has_bit usage 1)
    ++ (usage_line at (codes "keyEncipherment") (has_bit usage 2)
    ++ (usage_line at (codes "dataEncipherment") (has_bit usage 3)
    ++ usage_line at (codes "keyAgreement") (has_bit usage 4))))

-- those of the bits 5 to 8
unfoldable pub last_usages : Place → KeyUsage → List ℕ
last_usages at usage =
    usage_line at (codes "keyCertSign") (has_bit usage 5)
    ++ (usage_line at (codes "cRLSign") (has_bit usage 6)
    ++ (usage_line at (codes "encipherOnly") (has_bit usage 7)
    ++ usage_line at (codes "decipherOnly") (has_bit usage 8)))

unfoldable pub key_usage_lines : Place → KeyUsage → List ℕ
key_usage_lines at usage = first_usages at usage ++ last_usages at usage

-- ExtendedKeyUsage (RFC 5280 4.2.1.12)
abbrev pub purpose_line : Place → List ℕ → List ℕ
purpose_line at purpose = oid_line at (codes "purpose") purpose

abbrev pub purposes_lines : Place → List (List ℕ) → List ℕ
purposes_lines at purposes = flat_map (purpose_line at) purposes

-- BasicConstraints (RFC 5280 4.2.1.9)
unfoldable pub basic_constraints_lines : Place → BasicConstraints → List ℕ
basic_constraints_lines at constraints =
    line at (codes "certification authority") (yes_or_no constraints.ca)
    ++ optional_number at (codes "path length") constraints.path_len_constraint

-- SubjectKeyIdentifier (RFC 5280 4.2.1.2)
unfoldable pub subject_key_lines : Place → SubjectKeyIdentifier → List ℕ
subject_key_lines at identifier = octets_line at (codes "key identifier") identifier.0

-- AuthorityKeyIdentifier (RFC 5280 4.2.1.1)
abbrev pub optional_key : Place → Option (List ℕ) → List ℕ
optional_key at key = optional (octets_line at (codes "key identifier")) key

abbrev pub optional_serial : Place → Option (List ℕ) → List ℕ
optional_serial at serial = optional (serial_line at (codes "serial")) serial

unfoldable pub authority_key_lines : Place → AuthorityKeyIdentifier → List ℕ
authority_key_lines at identifier =
    optional_key at identifier.key_identifier
    ++ (optional_names at (codes "issuer") identifier.authority_cert_issuer
    ++ optional_serial at identifier.authority_cert_serial_number)

-- PrivateKeyUsagePeriod (X.509 9.2.2.5)
abbrev pub optional_moment : Place → List ℕ → Option CivilTime → List ℕ
optional_moment at label moment = optional (moment_line at label) moment

unfoldable pub period_lines : Place → PrivateKeyUsagePeriod → List ℕ
period_lines at period =
    optional_moment at (codes "not before") period.not_before ++ optional_moment at (codes "not after") period.not_after

-- an attribute: its type and its values
abbrev pub value_line : Place → Any → List ℕ
value_line at value = any_line at (codes "value") value

unfoldable pub attribute_lines : Place → Attribute → List ℕ
attribute_lines at attribute = oid_line at (codes "attribute") attribute.oid ++ flat_map (value_line (below at)) attribute.values

-- SubjectDirectoryAttributes (RFC 5280 4.2.1.8)
abbrev pub attributes_lines : Place → List Attribute → List ℕ
attributes_lines at attributes = flat_map (attribute_lines at) attributes
