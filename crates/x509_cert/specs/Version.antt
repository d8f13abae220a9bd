-- Version: which version a certificate has, as an INTEGER (RFC 5280 4.1.2.1)
use Rattle.std.specs.Prelude.{◌≡◌, ℕ, Bool, true, false, List, [], ◌∷◌, Some, refl}
use Rattle.x509_der.specs.declared.error.ErrorKind.{ErrorKind}
use Rattle.x509_der.specs.declared.tag.Tag.TheVariants.{Integer}
use Rattle.x509_der.specs.Form.{Form, IsForm}
use Rattle.x509_der.specs.Frames.{Default, IsDefault}
use Rattle.x509_prim.specs.Names.{with_number, Names, named_form}
use Rattle.x509_prim.specs.NamesLaws.{named_lawful}
use Rattle.x509_cert.specs.declared.certificate.version.Version.{Version}
use Rattle.x509_cert.specs.declared.certificate.version.Version.TheVariants.{V1, V2, V3}

abbrev pub version_number : Version → ℕ
version_number V1 = 0
version_number V2 = 1
version_number V3 = 2

abbrev pub version_values : List Version
version_values = V1 ∷ V2 ∷ V3 ∷ []

pub version_found : (version : Version) → with_number version_number version_values (version_number version) ≡ Some version
version_found V1 = refl
version_found V2 = refl
version_found V3 = refl

abbrev pub version_names : Names Version
version_names = record { values = version_values; number = version_number; found = version_found; small = refl }

abbrev pub version : Form Version
version = named_form Integer version_names

pub version_lawful : {R : ErrorKind → Type 0} → IsForm R version
version_lawful = named_lawful Integer version_names

-- ---- where it is left out

abbrev pub is_first : Version → Bool
is_first V1 = true
is_first V2 = false
is_first V3 = false

abbrev pub version_default : Default Version
version_default = record { default_value = V1; is_default = is_first }

pub version_default_lawful : IsDefault version_default
version_default_lawful = record { same = refl; only = elim [ V1 ↦ (λ e. refl) | V2 ↦ (λ e. absurd cc) | V3 ↦ (λ e. absurd cc) ] }
