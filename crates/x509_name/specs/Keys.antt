-- The keys of attributes in a text (RFC 4514 sections 2.3 and 3): a name of the table, or a dotted object identifier.
use Rattle.std.specs.Prelude.{◌≡◌, ◌⊎◌, ℕ, Bool, List, [], ◌∷◌, map, Option, Some, None, bytes_eq, ◌||◌, if◌then◌else◌}
use Rattle.std.specs.Str.{str_eq_ignore_ascii_case}
use Rattle.x509_der.specs.declared.tag.Tag.{Tag}
use Rattle.x509_der.specs.declared.tag.Tag.TheVariants.{PrintableString, Ia5String, Utf8String}
use Rattle.x509_der.specs.Arcs.{AreArcs, content_of, dotted}
use Rattle.x509_name.specs.AttributeNames.{Key, attribute_names}
use Rattle.x509_name.specs.declared.text.keys.Key as found
use Rattle.x509_name.specs.declared.text.keys.TextType.{TextType}
use Rattle.x509_name.specs.declared.text.keys.TextType.TheVariants.{Printable, Ia5, Utf8}

abbrev pub tag_of_type : TextType → Tag
tag_of_type Printable = PrintableString
tag_of_type Ia5 = Ia5String
tag_of_type Utf8 = Utf8String

-- what a row of the table says
abbrev pub row : List ℕ → List ℕ → List ℕ → TextType → Key
row name full_name octets type = record { name = name; full_name = full_name; octets = octets; tag = tag_of_type type }

-- what an answer says
abbrev pub said : Option found.Key → Option Key
said None = None
said (Some key) = Some (record { name = key.name.now; full_name = key.full_name.now; octets = key.oid; tag = key.tag })

-- the first that the test finds
abbrev pub first_where : {X : Type 0} → (X → Bool) → List X → Option X
first_where test [] = None
first_where test (x ∷ xs) = if test x then Some x else first_where test xs

-- whether it is one of the row's two names, without regard to ASCII case
abbrev pub is_named : List ℕ → Key → Bool
is_named name key = str_eq_ignore_ascii_case key.name name || str_eq_ignore_ascii_case key.full_name name

abbrev pub has_octets : List ℕ → Key → Bool
has_octets octets key = bytes_eq key.octets octets

-- the row of a name
unfoldable pub key_named : List ℕ → Option Key
key_named name = first_where (is_named name) attribute_names

-- the row of the object identifier with these content octets
unfoldable pub key_of : List ℕ → Option Key
key_of octets = first_where (has_octets octets) attribute_names

-- the key of an attribute names the type with these content octets: a name of the table, or the identifier's dotted text
abbrev pub KeySays : List ℕ → List ℕ → Type 0
KeySays text octets =
    ((key : Key) × (key_named text ≡ Some key) × (octets ≡ key.octets))
    ⊎ ((arcs : List ℕ) × AreArcs arcs × (text ≡ dotted arcs) × (octets ≡ content_of arcs))

-- the tag that a text's value is given: the row's, and UTF8String for a type without one
abbrev pub tag_of_row : Option Key → Tag
tag_of_row (Some key) = key.tag
tag_of_row None = Utf8String

abbrev pub tag_for : List ℕ → Tag
tag_for octets = tag_of_row (key_of octets)
