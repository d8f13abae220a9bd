-- Version of a CSR: INTEGER V1 0 (RFC 2986 4.1)
use Rattle.std.specs.Prelude.{◌≡◌, ℕ, List, [], ◌∷◌, Some, refl}
use Rattle.x509_der.specs.declared.error.ErrorKind.{ErrorKind}
use Rattle.x509_der.specs.declared.tag.Tag.TheVariants.{Integer}
use Rattle.x509_der.specs.Form.{Form, IsForm}
use Rattle.x509_prim.specs.Names.{with_number, Names, named_form}
use Rattle.x509_prim.specs.NamesLaws.{named_lawful}
use Rattle.x509_cert.specs.declared.request.version.Version.{Version}
use Rattle.x509_cert.specs.declared.request.version.Version.TheVariants.{V1}

abbrev pub version_number : Version → ℕ
version_number V1 = 0

abbrev pub version_values : List Version
version_values = V1 ∷ []

pub version_found : (version : Version) → with_number version_number version_values (version_number version) ≡ Some version
version_found V1 = refl

abbrev pub version_names : Names Version
version_names = record { values = version_values; number = version_number; found = version_found; small = refl }

abbrev pub version : Form Version
version = named_form Integer version_names

pub version_lawful : {R : ErrorKind → Type 0} → IsForm R version
version_lawful = named_lawful Integer version_names
