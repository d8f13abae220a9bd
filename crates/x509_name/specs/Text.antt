-- The text of an AttributeTypeAndValue (RFC 4514 sections 2.3, 2.4 and 3).
use Rattle.std.specs.Prelude.{ℕ, List}
use Rattle.x509_der.specs.declared.error.ErrorKind.{ErrorKind}
use Rattle.x509_name.specs.Attributes.{AttributeReads, AttributeRefused, attribute_text}
use Rattle.x509_name.specs.Encodings.{SaysEncoding, EncodingRefused}
use Rattle.x509_name.specs.TypeAndValue.{attribute_type_and_value}
use Rattle.x509_name.specs.declared.attr.type_and_value.AttributeTypeAndValue.{AttributeTypeAndValue}

abbrev pub Reads : List ℕ → AttributeTypeAndValue → Type 0
Reads text attribute = AttributeReads text attribute.oid attribute.value

abbrev pub text_of : AttributeTypeAndValue → List ℕ
text_of attribute = attribute_text attribute.oid attribute.value

-- the encoding of the attribute that the text reads as, and why there is none
abbrev pub Encodes : List ℕ → List ℕ → Type 0
Encodes text bytes = SaysEncoding attribute_type_and_value Reads text bytes

abbrev pub NotEncoded : List ℕ → ErrorKind → Type 0
NotEncoded text kind = EncodingRefused attribute_type_and_value Reads AttributeRefused text kind
