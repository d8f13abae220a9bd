-- General names that match (RFC 5280 4.2.1.6, 7.1).
use Rattle.std.specs.Prelude.{◌≡◌, ◌≢◌, ◌⊎◌, List, [], ◌∷◌, Option, Some, None}
use Rattle.x509_ext.specs.declared.pkix.name.general_name.GeneralName.{GeneralName}
use Rattle.x509_ext.specs.declared.pkix.name.general_name.GeneralName.TheVariants.{DirectoryName}
use Rattle.x509_match.specs.Matching.{NamesMatch}
use Rattle.x509_name.specs.declared.attr.type_and_value.AttributeTypeAndValue.{AttributeTypeAndValue}

abbrev pub Name : Type 0
Name = List (List AttributeTypeAndValue)

abbrev pub directory_name : GeneralName → Option Name
directory_name (DirectoryName name) = Some name
directory_name _ = None

-- directory names match by 7.1, and other names where they are equal
abbrev pub MatchAs : Option Name → Option Name → Type 0 → Type 0
MatchAs None other same = same
MatchAs (Some a) None same = same
MatchAs (Some a) (Some b) same = NamesMatch a b

abbrev pub GeneralNamesMatch : GeneralName → GeneralName → Type 0
GeneralNamesMatch a b = MatchAs (directory_name a) (directory_name b) (a ≡ b)

-- one of the others matches the name
abbrev pub HasMatch : GeneralName → List GeneralName → Type 0
HasMatch name [] = ⊥
HasMatch name (other ∷ others) = GeneralNamesMatch name other ⊎ HasMatch name others

-- one of the names matches one of the others
abbrev pub HaveMatch : List GeneralName → List GeneralName → Type 0
HaveMatch [] others = ⊥
HaveMatch (name ∷ names) others = HasMatch name others ⊎ HaveMatch names others

-- one of the names is a directory name
abbrev pub HasDirectoryName : List GeneralName → Type 0
HasDirectoryName [] = ⊥
HasDirectoryName (name ∷ names) = (directory_name name ≢ None) ⊎ HasDirectoryName names
