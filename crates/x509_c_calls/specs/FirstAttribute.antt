-- The first attribute of a type in a name, in the order of the encoding, by its place (RFC 5280 4.1.2.4).
use Rattle.std.specs.Prelude.{◌≡◌, ◌≤◌, ◌⊎◌, ℕ, true, List, ◌∷◌, ◌++◌, length, None, bytes_eq}
use Rattle.x509_c_calls.specs.Attributes.{IsAttribute}
use Rattle.x509_c_calls.specs.declared.payloads.name.AttributeView.{AttributeView}
use Rattle.x509_c_calls.specs.declared.status.status.Status.{Status}
use Rattle.x509_c_calls.specs.declared.status.status.Status.TheVariants.{Done, NoRoom, Absent, Repeated, Faulty, Limit, Refused}
use Rattle.x509_der.specs.Element.{limit}
use Rattle.x509_der.specs.declared.error.ErrorKind.{ErrorKind}
use Rattle.x509_der.specs.declared.error.ErrorKind.TheVariants.{Memory}
use Rattle.x509_der.specs.List.{joined}
use Rattle.x509_der.specs.Form.{Form, Spells, spelling}
use Rattle.x509_name.specs.Iterators.{members_of}
use Rattle.x509_name.specs.LookUp.{first_of_type}
use Rattle.x509_name.specs.Names.{relative_distinguished_name}
use Rattle.x509_name.specs.TypeAndValue.{attribute_type_and_value}
use Rattle.x509_name.specs.declared.attr.type_and_value.AttributeTypeAndValue.{AttributeTypeAndValue}
use Rattle.x509_types.specs.Reencoding.{IsRefused}

-- the first of the attributes whose type has these content octets, those in front of it and those behind it
pub record IsFirstIn (oid : List ℕ) (attributes : List AttributeTypeAndValue) (first : AttributeTypeAndValue) (behind : List AttributeTypeAndValue) : Type 0 where
  pub before : List AttributeTypeAndValue
  pub split : attributes ≡ before ++ first ∷ behind
  pub others : first_of_type oid before ≡ None
  pub is : bytes_eq first.oid oid ≡ true

-- the same of the attributes of a name, with the rest of its RDN, and the RDNs behind that
pub record IsFirstOf (oid : List ℕ) (name : List (List AttributeTypeAndValue)) (first : AttributeTypeAndValue) (rest : List AttributeTypeAndValue) (behind : List (List AttributeTypeAndValue)) : Type 0 where
  pub before : List (List AttributeTypeAndValue)
  pub rdn : List AttributeTypeAndValue
  pub split : name ≡ before ++ rdn ∷ behind
  pub others : first_of_type oid (members_of before) ≡ None
  pub in_rdn : IsFirstIn oid rdn first rest

-- the view is that of the first attribute of the type in the name, which the bytes spell
abbrev pub ShowsFirst : List ℕ → List (List AttributeTypeAndValue) → List ℕ → AttributeView → Type 0
ShowsFirst bytes name oid view =
    (first : AttributeTypeAndValue) × (rest : List AttributeTypeAndValue) × (behind : List (List AttributeTypeAndValue)) × IsFirstOf oid name first rest behind
    × IsAttribute bytes first (joined (spelling attribute_type_and_value) rest ++ joined (spelling relative_distinguished_name) behind) view

-- What a call leaves that asks a name for it. Done: the bytes spell a name that has one. Absent: they spell one that has none. Else they are refused. What
-- isn't filled in stays as it was.
unfoldable pub FindsAttribute : Form (List (List AttributeTypeAndValue)) → (ErrorKind → Type 0) → List ℕ → List ℕ → AttributeView → AttributeView → Status → Type 0
FindsAttribute form refuses bytes oid was is Done = (name : List (List AttributeTypeAndValue)) × Spells form name bytes × ShowsFirst bytes name oid is
FindsAttribute form refuses bytes oid was is Absent = (name : List (List AttributeTypeAndValue)) × Spells form name bytes × (first_of_type oid (members_of name) ≡ None) × (is ≡ was)
FindsAttribute form refuses bytes oid was is (Refused e) = (((e ≡ Memory) × (length bytes ≤ limit)) ⊎ IsRefused form refuses bytes e) × (is ≡ was)
FindsAttribute form refuses bytes oid was is NoRoom = ⊥
FindsAttribute form refuses bytes oid was is Repeated = ⊥
FindsAttribute form refuses bytes oid was is Faulty = ⊥
FindsAttribute form refuses bytes oid was is Limit = ⊥
