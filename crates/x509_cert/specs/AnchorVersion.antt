-- Version: INTEGER, of which 0 alone has a name, V1 (RFC 5914 2.1)
use Rattle.std.specs.Prelude.{◌≡◌, ℕ, true, List, [], ◌∷◌, Some, refl}
use Rattle.x509_der.specs.declared.error.ErrorKind.{ErrorKind}
use Rattle.x509_der.specs.declared.tag.Tag.TheVariants.{Integer}
use Rattle.x509_der.specs.Form.{Form, IsForm}
use Rattle.x509_der.specs.Frames.{Default, IsDefault}
use Rattle.x509_prim.specs.Names.{with_number, Names, named_form}
use Rattle.x509_prim.specs.NamesLaws.{named_lawful}
use Rattle.x509_cert.specs.declared.anchor.version.Version.{Version}
use Rattle.x509_cert.specs.declared.anchor.version.Version.TheVariants.{V1}

abbrev pub version_number : Version → ℕ
version_number V1 = 0

abbrev pub version_values : List Version
version_values = V1 ∷ []

pub version_found : (version : Version) → with_number version_number version_values (version_number version) ≡ Some version
version_found V1 = refl

abbrev pub version_names : Names Version
version_names = record { values = version_values; number = version_number; found = version_found; small = refl }

abbrev pub version : Form Version
version = named_form Integer version_names

pub version_lawful : {R : ErrorKind → Type 0} → IsForm R version
version_lawful = named_lawful Integer version_names

-- V1, which is each version
abbrev pub version_default : Default Version
version_default = record { default_value = V1; is_default = λ version. true }

only_one : (version : Version) → version ≡ V1
only_one V1 = refl

pub version_default_lawful : IsDefault version_default
version_default_lawful = record { same = refl; only = λ version is. only_one version }
