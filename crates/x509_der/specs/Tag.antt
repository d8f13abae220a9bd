-- The identifier octet of a tag (X.690 8.1.2; the universal types of X.680 8.4).
use Rattle.std.specs.Prelude.{ℕ, ◌+◌, Bool, if◌then◌else◌}
use Rattle.x509_der.specs.declared.tag.Tag.{Tag}
use Rattle.x509_der.specs.declared.tag.Tag.TheVariants.{Boolean, Integer, BitString, OctetString, Null, ObjectIdentifier, Real, Enumerated, Utf8String, RelativeOid, NumericString, PrintableString, TeletexString, VideotexString, Ia5String, UtcTime, GeneralizedTime, GraphicString, VisibleString, GeneralString, UniversalString, BmpString, Sequence, Set, Application, ContextSpecific, Private}

-- the sixth bit says that the content is elements (X.690 8.1.2.5)
abbrev pub constructed_bit : Bool → ℕ
constructed_bit constructed = if constructed then 32 else 0

abbrev pub octet_of : Tag → ℕ
octet_of Boolean = 0x01
octet_of Integer = 0x02
octet_of BitString = 0x03
octet_of OctetString = 0x04
octet_of Null = 0x05
octet_of ObjectIdentifier = 0x06
octet_of Real = 0x09
octet_of Enumerated = 0x0A
octet_of Utf8String = 0x0C
octet_of RelativeOid = 0x0D
octet_of NumericString = 0x12
octet_of PrintableString = 0x13
octet_of TeletexString = 0x14
octet_of VideotexString = 0x15
octet_of Ia5String = 0x16
octet_of UtcTime = 0x17
octet_of GeneralizedTime = 0x18
octet_of GraphicString = 0x19
octet_of VisibleString = 0x1A
octet_of GeneralString = 0x1B
octet_of UniversalString = 0x1C
octet_of BmpString = 0x1E
octet_of Sequence = 0x30
octet_of Set = 0x31
octet_of (Application constructed number) = 0x40 + constructed_bit constructed + number.number
octet_of (ContextSpecific constructed number) = 0x80 + constructed_bit constructed + number.number
octet_of (Private constructed number) = 0xC0 + constructed_bit constructed + number.number
