-- General names that are lent from their bytes.
use Rattle.std.specs.Prelude.{◌≡◌, ◌≤◌, ℕ, List, length, Option, Some, None}
use Rattle.x509_der.specs.Element.{limit}
use Rattle.x509_der.specs.Form.{Spells, spelling}
use Rattle.x509_der.specs.List.{all_good, joined}
use Rattle.x509_ext.specs.GeneralName.{general_name}
use Rattle.x509_ext.specs.declared.pkix.name.general_name.GeneralName.{GeneralName}
use Rattle.x509_name.specs.Names.{name}
use Rattle.x509_revocation.specs.Names.{Name, directory_name}

-- the bytes are their elements, one after the other
abbrev pub AreNames : List ℕ → List GeneralName → Type 0
AreNames bytes names = all_good general_name.good names × (bytes ≡ joined (spelling general_name) names) × (length bytes ≤ limit)

-- lent is the encoding of the directory name, and nothing of another name
abbrev pub LendsDirectory : GeneralName → Option (List ℕ) → Type 0
LendsDirectory general None = directory_name general ≡ None
LendsDirectory general (Some bytes) = (inside : Name) × (directory_name general ≡ Some inside) × Spells name inside bytes
