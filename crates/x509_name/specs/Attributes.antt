-- The text of an attribute, of the type with these content octets and with this value (RFC 4514 sections 2.3, 2.4 and 3).
use Rattle.std.specs.Prelude.{◌≡◌, ◌≢◌, ◌<◌, ◌≤◌, ◌⊎◌, ℕ, Bool, true, false, nat_eq, length, List, [], ◌∷◌, ◌++◌, Option, Some, None, Ok, Contains, if◌then◌else◌}
use Rattle.std.specs.List.{list_all}
use Rattle.std.specs.Str.{is_utf8}
use Rattle.hex.specs.Hex.{IsBytes, encode_lower, decode_of}
use Rattle.x509_der.specs.Element.{element, limit}
use Rattle.x509_der.specs.Tag.{octet_of}
use Rattle.x509_der.specs.declared.error.ErrorKind.{ErrorKind}
use Rattle.x509_der.specs.declared.error.ErrorKind.TheVariants.{Failed, Overlength}
use Rattle.x509_der.specs.declared.tag.Tag.{Tag}
use Rattle.x509_der.specs.declared.tag.Tag.TheVariants.{PrintableString, Utf8String, Ia5String, TeletexString}
use Rattle.x509_der.specs.Arcs.{dotted}
use Rattle.x509_der.specs.ObjectIdentifier.{arcs_of, is_object_identifier}
use Rattle.x509_der.specs.declared.any.Any.{Any}
use Rattle.x509_prim.specs.Alphabet.{is_printable, is_ia5}
use Rattle.x509_name.specs.Escapes.{Unescapes, escaped}
use Rattle.x509_name.specs.AttributeNames.{Key}
use Rattle.x509_name.specs.Keys.{key_of, KeySays, tag_for}

-- the octets of the value's element
abbrev pub value_octets : Any → List ℕ
value_octets value = element (octet_of value.tag) value.value

-- ---- what is printed

-- whether the content is a text of the type with this tag, which is one of the four that are printed as text
unfoldable pub is_text : Tag → List ℕ → Bool
is_text PrintableString content = list_all is_printable content
is_text Utf8String content = is_utf8 content
is_text Ia5String content = list_all is_ia5 content
is_text TeletexString content = list_all is_ia5 content
is_text tag content = false

-- the row by whose name the attribute is printed, where it is printed by name
abbrev pub printed_key : List ℕ → Any → Option Key
printed_key octets value = if is_text value.tag value.value then key_of octets else None

-- the name, and the content with escapes; or the dotted identifier, and the hex of the element behind a number sign
abbrev pub text_by : Option Key → List ℕ → Any → List ℕ
text_by (Some key) octets value = key.name ++ 61 ∷ escaped value.value
text_by None octets value = dotted (arcs_of octets) ++ 61 ∷ 35 ∷ encode_lower (value_octets value)

unfoldable pub attribute_text : List ℕ → Any → List ℕ
attribute_text octets value = text_by (printed_key octets value) octets value

-- ---- what is read

abbrev pub begins_with_hash : List ℕ → Bool
begins_with_hash [] = false
begins_with_hash (byte ∷ text) = nat_eq byte 35

-- What stands behind the equals sign gives the octets of an element: hex behind a number sign gives them, and any other text
-- stands for the content under the type's tag.
abbrev pub ValueSays : List ℕ → List ℕ → List ℕ → Type 0
ValueSays octets text bytes =
    ((digits : List ℕ) × (text ≡ 35 ∷ digits) × (decode_of digits ≡ Ok bytes))
    ⊎ ((content : List ℕ) × (begins_with_hash text ≡ false) × Unescapes text content × (bytes ≡ element (octet_of (tag_for octets)) content))

-- the text is a key, the first equals sign and what stands behind it
pub record IsCut (text key rest : List ℕ) : Type 0 where
  pub joined : text ≡ key ++ 61 ∷ rest
  pub first : Contains key 61 → ⊥

-- a key, the first equals sign, and what says the value
pub record AttributeSays (text octets bytes : List ℕ) : Type 0 where
  pub key : List ℕ
  pub rest : List ℕ
  pub cut : IsCut text key rest
  pub names : KeySays key octets
  pub says : ValueSays octets rest bytes

-- what stands behind the equals sign reads as the value: it says its element, which is within the limit
abbrev pub ValueReads : List ℕ → List ℕ → Any → Type 0
ValueReads octets text value = ValueSays octets text (value_octets value) × (length (value_octets value) ≤ limit)

-- the text reads as the attribute, in the same way
abbrev pub AttributeReads : List ℕ → List ℕ → Any → Type 0
AttributeReads text octets value = AttributeSays text octets (value_octets value) × (length (value_octets value) ≤ limit)

-- ---- what is refused

-- hex digits say octets that are over the limit, or else no element
abbrev pub HexRefused : List ℕ → ErrorKind → Type 0
HexRefused digits kind =
    ((kind ≡ Overlength) × (bytes : List ℕ) × (decode_of digits ≡ Ok bytes) × (limit < length bytes))
    ⊎ ((kind ≡ Failed) × ((bytes : List ℕ) → decode_of digits ≡ Ok bytes → (length bytes ≤ limit) × ((value : Any) → bytes ≢ value_octets value)))

-- what stands behind the equals sign says the octets of an element that are over the limit
abbrev pub ValueSaysTooMuch : List ℕ → List ℕ → Type 0
ValueSaysTooMuch octets text = (bytes : List ℕ) × ValueSays octets text bytes × (limit < length bytes)

-- it does so, or else reads as no value
abbrev pub ValueRefused : List ℕ → List ℕ → ErrorKind → Type 0
ValueRefused octets text kind =
    ((kind ≡ Overlength) × ValueSaysTooMuch octets text)
    ⊎ ((kind ≡ Failed) × (ValueSaysTooMuch octets text → ⊥) × ((value : Any) → ValueReads octets text value → ⊥))

-- the text says the octets of an element that are over the limit
abbrev pub SaysTooMuch : List ℕ → Type 0
SaysTooMuch text = (octets bytes : List ℕ) × AttributeSays text octets bytes × (limit < length bytes)

-- it does so, or else reads as no attribute
abbrev pub AttributeRefused : List ℕ → ErrorKind → Type 0
AttributeRefused text kind =
    ((kind ≡ Overlength) × SaysTooMuch text)
    ⊎ ((kind ≡ Failed) × (SaysTooMuch text → ⊥) × ((octets : List ℕ) (value : Any) → AttributeReads text octets value → ⊥))

-- ---- what reads back

-- An attribute that reads back from its text: of a type that is an object identifier, with a content of octets and an
-- element within the limit, and with the type's tag where it is printed by name.
pub record ReadsBack (octets : List ℕ) (value : Any) : Type 0 where
  pub type : is_object_identifier octets ≡ true
  pub content : IsBytes value.value
  pub within : length (value_octets value) ≤ limit
  pub tagged : printed_key octets value ≢ None → value.tag ≡ tag_for octets
