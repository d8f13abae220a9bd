-- What an object identifier is called.
use Rattle.std.specs.Prelude.{ℕ, List, [], ◌∷◌, Option, Some, None, bytes_eq, if◌then◌else◌}
use Rattle.x509_der.specs.Arcs.{dotted}
use Rattle.x509_der.specs.ObjectIdentifier.{arcs_of}
use Rattle.x509_text.specs.OidNames.{Row, oid_names}

-- the name of the first row with these content octets
abbrev pub first_name : List ℕ → List Row → Option (List ℕ)
first_name octets [] = None
first_name octets (r ∷ rows) = if bytes_eq r.octets octets then Some r.name else first_name octets rows

unfoldable pub name_of : List ℕ → Option (List ℕ)
name_of octets = first_name octets oid_names

abbrev pub name_or_dotted : Option (List ℕ) → List ℕ → List ℕ
name_or_dotted (Some name) octets = name
name_or_dotted None octets = dotted (arcs_of octets)

-- the name of an object identifier, by its content octets; its dotted text where it has none here
unfoldable pub oid_text : List ℕ → List ℕ
oid_text octets = name_or_dotted (name_of octets) octets
