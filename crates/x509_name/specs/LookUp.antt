-- Look-ups in names: the first attribute of a type, in the order of the encoding.
use Rattle.std.specs.Prelude.{◌≡◌, ℕ, List, [], ◌∷◌, Option, Some, None, Result, Ok, Err, bytes_eq, if◌then◌else◌}
use Rattle.x509_der.specs.declared.error.Error.{Error}
use Rattle.x509_der.specs.declared.any.Any.{Any}
use Rattle.x509_name.specs.declared.attr.type_and_value.AttributeTypeAndValue.{AttributeTypeAndValue}
use Rattle.x509_name.specs.DirectoryString.{ReadsDirectoryString}
use Rattle.x509_name.specs.declared.name.directory_string.DirectoryString.{DirectoryString}
use Rattle.x509_name.specs.Iterators.{members_of}

-- the value of the first attribute whose type has these content octets
abbrev pub first_of_type : List ℕ → List AttributeTypeAndValue → Option Any
first_of_type oid [] = None
first_of_type oid (a ∷ attributes) = if bytes_eq a.oid oid then Some a.value else first_of_type oid attributes

-- The answer: None exactly where there is no such value, and else what its conversion may give.
abbrev pub LooksUp : {T : Type 0} → (Any → Result T Error → Type 0) → Option Any → Result (Option T) Error → Type 0
LooksUp gives None answer = answer ≡ Ok None
LooksUp gives (Some any) (Ok None) = ⊥
LooksUp gives (Some any) (Ok (Some value)) = gives any (Ok value)
LooksUp gives (Some any) (Err e) = gives any (Err e)

-- the same of a name's attributes of a type as DirectoryString
abbrev pub LooksUpString : List ℕ → List (List AttributeTypeAndValue) → Result (Option DirectoryString) Error → Type 0
LooksUpString oid name answer = LooksUp ReadsDirectoryString (first_of_type oid (members_of name)) answer
