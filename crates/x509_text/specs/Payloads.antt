-- Values that may be left out, octets, and what octets are the encoding of.
use Rattle.std.specs.Prelude.{ℕ, List, [], Option, Some, None, Result, Ok, Err, length, nat_le, codes, if◌then◌else◌}
use Rattle.hex.specs.Hex.{encode_lower}
use Rattle.x509_der.specs.declared.error.ErrorKind.{ErrorKind}
use Rattle.x509_der.specs.Element.{element, limit}
use Rattle.x509_der.specs.Tag.{octet_of}
use Rattle.x509_der.specs.declared.any.Any.{Any}
use Rattle.x509_der.specs.Form.{Form, whole_reading}
use Rattle.x509_text.specs.declared.line.Place.{Place}
use Rattle.x509_text.specs.Lines.{line}

-- nothing of a value that is left out
abbrev pub optional : {X : Type 0} → (X → List ℕ) → Option X → List ℕ
optional lines None = []
optional lines (Some x) = lines x

-- octets in hex
unfoldable pub octets_line : Place → List ℕ → List ℕ → List ℕ
octets_line at label octets = line at label (encode_lower octets)

abbrev pub value_read : {X : Type 0} → Result X ErrorKind → Option X
value_read (Ok x) = Some x
value_read (Err e) = None

-- the value of which the octets are the encoding, where they are that of one
unfoldable pub value_of : {X : Type 0} → Form X → List ℕ → Option X
value_of form octets = if nat_le (length octets) limit then value_read (whole_reading form.reading octets) else None

-- the lines of a value; where there is none, the octets in hex, with a word that says so
abbrev pub lines_or_octets : {X : Type 0} → (Place → X → List ℕ) → Place → List ℕ → Option X → List ℕ
lines_or_octets lines at octets (Some value) = lines at value
lines_or_octets lines at octets None = octets_line at (codes "undecodable") octets

-- what is printed of octets that are to be the encoding of a value
abbrev pub payload_lines : {X : Type 0} → Form X → (Place → X → List ℕ) → Place → List ℕ → List ℕ
payload_lines form lines at octets = lines_or_octets lines at octets (value_of form octets)

-- the value that an element is the encoding of
abbrev pub value_in : {X : Type 0} → Form X → Any → Option X
value_in form any = value_read (form.reading (octet_of any.tag) any.value)

-- the encoding of an element in hex
unfoldable pub element_line : Place → List ℕ → Any → List ℕ
element_line at label any = octets_line at label (element (octet_of any.tag) any.value)

-- the lines of a value; where there is none, the element in hex, with a word that says so
abbrev pub lines_or_element : {X : Type 0} → (Place → X → List ℕ) → Place → Any → Option X → List ℕ
lines_or_element lines at any (Some value) = lines at value
lines_or_element lines at any None = element_line at (codes "undecodable") any

-- what is printed of an element that is to be the encoding of a value
abbrev pub any_lines : {X : Type 0} → Form X → (Place → X → List ℕ) → Place → Any → List ℕ
any_lines form lines at any = lines_or_element lines at any (value_in form any)
