-- Names of hardware modules among general names (RFC 4108 5).
use Rattle.std.specs.Prelude.{◌≡◌, ◌<◌, ◌⊎◌, ℕ, List, [], ◌∷◌, length, Option, Some, None, Result, Ok, Err, IsOk, bytes_eq, if◌then◌else◌}
use Rattle.x509_build.specs.declared.error.Error.{Error}
use Rattle.x509_build.specs.declared.error.Error.TheVariants.{Asn1}
use Rattle.x509_build.specs.declared.profile.devid.TpmVersion.{TpmVersion}
use Rattle.x509_build.specs.declared.profile.devid.TpmVersion.TheVariants.{Tpm12, Tpm20, Other}
use Rattle.x509_der.specs.Element.{limit}
use Rattle.x509_der.specs.declared.error.ErrorKind.{ErrorKind}
use Rattle.x509_der.specs.declared.error.ErrorKind.TheVariants.{Memory, Malformed, Failed, Overlength}
use Rattle.x509_der.specs.Form.{spelling}
use Rattle.x509_der.specs.Arcs.{content_of}
use Rattle.x509_ext.specs.HardwareModuleName.{IsModuleIn, hardware_module_name, id_on_hardware_module_name}
use Rattle.x509_ext.specs.declared.pkix.name.general_name.GeneralName.{GeneralName}
use Rattle.x509_ext.specs.declared.pkix.name.general_name.GeneralName.TheVariants.{OtherName}
use Rattle.x509_ext.specs.declared.pkix.name.hardware_module_name.HardwareModuleName.{HardwareModuleName}
use Rattle.x509_ext.specs.declared.pkix.name.other_name.OtherName as others

-- the name, where its identifier says that it is that of a hardware module
abbrev pub said_module : GeneralName → Option others.OtherName
said_module (OtherName other) = if bytes_eq other.type_id id_on_hardware_module_name then Some other else None
said_module another = None

abbrev pub or_else : {X : Type 0} → Option X → Option X → Option X
or_else (Some x) later = Some x
or_else None later = later

-- the first of them
abbrev pub first_module : List GeneralName → Option others.OtherName
first_module [] = None
first_module (name ∷ names) = or_else (said_module name) (first_module names)

-- its value is the element of a module's name
abbrev pub IsModule : others.OtherName → Type 0
IsModule other = (hardware : HardwareModuleName) × hardware_module_name.good hardware × IsModuleIn hardware other.value

-- why names aren't taken: no identifier says that a name is that of a module; or the first of which it is said is none
abbrev pub NoModule : Option others.OtherName → ErrorKind → Type 0
NoModule None kind = kind ≡ Failed
NoModule (Some other) kind = (kind ≡ Memory) ⊎ ((kind ≡ Malformed) × (IsModule other → ⊥))

abbrev pub HasModule : Option others.OtherName → Type 0
HasModule None = ⊥
HasModule (Some other) = IsModule other

-- what a check of names answers that may be left out: none are taken; others are taken exactly where the first of which it is
-- said is the name of a module
abbrev pub NamesModule : {T : Type 0} → Option (List GeneralName) → Result T Error → Type 0
NamesModule None answer = IsOk answer
NamesModule (Some names) (Ok t) = HasModule (first_module names)
NamesModule (Some names) (Err (Asn1 e)) = NoModule (first_module names) e.kind
NamesModule (Some names) (Err another) = ⊥

-- ---- trusted platform modules

-- their versions as types of modules: 2.23.133.1.0, 2.23.133.1.2, or another
unfoldable pub tpm_12 : List ℕ
tpm_12 = content_of (2 ∷ 23 ∷ 133 ∷ 1 ∷ 0 ∷ [])

unfoldable pub tpm_20 : List ℕ
tpm_20 = content_of (2 ∷ 23 ∷ 133 ∷ 1 ∷ 2 ∷ [])

abbrev pub type_of_module : TpmVersion → List ℕ
type_of_module Tpm12 = tpm_12
type_of_module Tpm20 = tpm_20
type_of_module (Other oid) = oid

abbrev pub tpm_module : TpmVersion → List ℕ → HardwareModuleName
tpm_module version serial_number = record { hw_type = type_of_module version; hw_serial_num = serial_number }

-- why a module's name isn't put in: out of memory, or its element is too long
abbrev pub CantName : HardwareModuleName → Error → Type 0
CantName hardware (Asn1 e) = (e.kind ≡ Memory) ⊎ ((e.kind ≡ Overlength) × (limit < length (spelling hardware_module_name hardware)))
CantName hardware another = ⊥
