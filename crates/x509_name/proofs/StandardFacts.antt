-- Texts of attributes and names of types, computed from the definitions (RFC 4514 sections 2.4, 3 and 4; RFC 4519 section 2).
use Rattle.std.proofs.Common.{◌≡◌, [], ◌∷◌, codes, Some, None, refl}
use Rattle.std.specs.Prelude.{option_map}
use Rattle.std.specs.Fmt.{digits}
use lib.Utf8.{encode}
use Rattle.std.specs.Str.{chars, is_utf8}
use Rattle.hex.specs.Hex.{encode_with}
use Rattle.x509_der.specs.Element.{element, length_octets}
use Rattle.x509_der.specs.declared.tag.Tag.TheVariants.{Utf8String, PrintableString, OctetString}
use Rattle.x509_der.specs.Arcs.{dotted, subidentifier}
use Rattle.x509_der.specs.ObjectIdentifier.{arcs_of}
use Rattle.x509_prim.specs.Alphabet.{is_printable}
use Rattle.x509_name.specs.Escapes.{escaped}
use Rattle.x509_name.specs.AttributeNames.{attribute_names}
use Rattle.x509_name.specs.Keys.{key_named, key_of}
use Rattle.x509_name.specs.Attributes.{attribute_text, is_text}

pub number_sign : attribute_text (0x55 ∷ 0x04 ∷ 0x03 ∷ []) (record { tag = Utf8String; value = codes "#x" }) ≡ codes "CN=\\#x"
unfolding attribute_text is_text is_utf8 chars encode escaped key_of attribute_names subidentifier
number_sign = refl

pub one_space : attribute_text (0x55 ∷ 0x04 ∷ 0x03 ∷ []) (record { tag = Utf8String; value = codes " " }) ≡ codes "CN=\\ "
unfolding attribute_text is_text is_utf8 chars encode escaped key_of attribute_names subidentifier
one_space = refl

pub one_zero : attribute_text (0x55 ∷ 0x04 ∷ 0x03 ∷ []) (record { tag = Utf8String; value = 0 ∷ [] }) ≡ codes "CN=\\00"
unfolding attribute_text is_text is_utf8 chars encode escaped key_of attribute_names subidentifier
one_zero = refl

pub no_printable_string : attribute_text (0x55 ∷ 0x04 ∷ 0x03 ∷ []) (record { tag = PrintableString; value = codes "*" }) ≡ codes "2.5.4.3=#13012a"
unfolding attribute_text is_text is_printable encode_with element length_octets dotted arcs_of digits
no_printable_string = refl

pub no_text : attribute_text (0x55 ∷ 0x04 ∷ 0x03 ∷ []) (record { tag = Utf8String; value = 0xFF ∷ [] }) ≡ codes "2.5.4.3=#0c01ff"
unfolding attribute_text is_text is_utf8 chars encode encode_with element length_octets dotted arcs_of digits
no_text = refl

pub unnamed_type : attribute_text (0x2B ∷ 0x06 ∷ 0x01 ∷ 0x04 ∷ 0x01 ∷ 0x8B ∷ 0x3A ∷ 0x00 ∷ []) (record { tag = OctetString; value = codes "Hi" }) ≡ codes "1.3.6.1.4.1.1466.0=#04024869"
unfolding attribute_text is_text encode_with element length_octets dotted arcs_of digits key_of attribute_names subidentifier
unnamed_type = refl

-- ---- names, in any case

pub by_full_name : option_map (λ key. key.name) (key_named (codes "COUNTRYNAME")) ≡ Some (codes "C")
unfolding key_named attribute_names subidentifier
by_full_name = refl

pub in_small_letters : option_map (λ key. key.octets) (key_named (codes "sn")) ≡ Some (0x55 ∷ 0x04 ∷ 0x04 ∷ [])
unfolding key_named attribute_names subidentifier
in_small_letters = refl

pub no_name : key_named (codes "X") ≡ None
unfolding key_named attribute_names subidentifier
no_name = refl
