-- Tags and identifier octets are one to one.
use Rattle.std.proofs.Common.{◌≡◌, ℕ, ◌+◌, ◌%◌, ◌<◌, ◌≤◌, Bool, true, false, refl, arith}
use Rattle.std.proofs.lemmas.Bool.Decides.{nat_tests}
use Rattle.x509_der.specs.Element.{is_identifier, is_universal}
use Rattle.x509_der.specs.Tag.{octet_of, constructed_bit}
use Rattle.x509_der.specs.declared.tag.Tag.{Tag}
use Rattle.x509_der.specs.declared.tag.Tag.TheVariants.{Boolean, Integer, BitString, OctetString, Null, ObjectIdentifier, Real, Enumerated, Utf8String, RelativeOid, NumericString, PrintableString, TeletexString, VideotexString, Ia5String, UtcTime, GeneralizedTime, GraphicString, VisibleString, GeneralString, UniversalString, BmpString, Sequence, Set, Application, ContextSpecific, Private}

-- an octet of another class
class_identifier : (class n : ℕ) (constructed : Bool) → 64 ≤ class → class ≤ 192 → class % 32 ≡ 0 → n ≤ 30 → is_identifier (class + constructed_bit constructed + n) ≡ true
unfolding is_identifier is_universal
class_identifier class n true low high even small = grind (arith, nat_tests)
class_identifier class n false low high even small = grind (arith, nat_tests)

pub tag_is_identifier : (tag : Tag) → is_identifier (octet_of tag) ≡ true
unfolding is_identifier is_universal
tag_is_identifier Boolean = refl
tag_is_identifier Integer = refl
tag_is_identifier BitString = refl
tag_is_identifier OctetString = refl
tag_is_identifier Null = refl
tag_is_identifier ObjectIdentifier = refl
tag_is_identifier Real = refl
tag_is_identifier Enumerated = refl
tag_is_identifier Utf8String = refl
tag_is_identifier RelativeOid = refl
tag_is_identifier NumericString = refl
tag_is_identifier PrintableString = refl
tag_is_identifier TeletexString = refl
tag_is_identifier VideotexString = refl
tag_is_identifier Ia5String = refl
tag_is_identifier UtcTime = refl
tag_is_identifier GeneralizedTime = refl
tag_is_identifier GraphicString = refl
tag_is_identifier VisibleString = refl
tag_is_identifier GeneralString = refl
tag_is_identifier UniversalString = refl
tag_is_identifier BmpString = refl
tag_is_identifier Sequence = refl
tag_is_identifier Set = refl
tag_is_identifier (Application constructed number) = class_identifier 64 number.number constructed (omega arith) (omega arith) refl number.low
tag_is_identifier (ContextSpecific constructed number) = class_identifier 128 number.number constructed (omega arith) (omega arith) refl number.low
tag_is_identifier (Private constructed number) = class_identifier 192 number.number constructed (omega arith) (omega arith) refl number.low

pub is_identifier-octet : (octet : ℕ) → is_identifier octet ≡ true → octet < 256
unfolding is_identifier is_universal
is_identifier-octet octet h = grind (arith, nat_tests)
