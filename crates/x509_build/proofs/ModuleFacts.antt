-- Facts on the names of hardware modules among general names.
use Rattle.std.proofs.Common.{◌≡◌, Bool, true, false, List, [], ◌∷◌, Option, Some, None, Result, Ok, IfOk, refl, sym}
use Rattle.std.specs.Prelude.{IsSomeAnd, bytes_eq, if◌then◌else◌}
use Rattle.std.proofs.lemmas.Slice.Eq.{bytes_eq-Decides}
use Rattle.x509_build.specs.Modules.{HasModule, IsModule, first_module, or_else}
use Rattle.x509_der.specs.declared.error.Error.{Error}
use Rattle.x509_ext.specs.HardwareModuleName.{IsModuleIn, hardware_module_name, id_on_hardware_module_name}
use Rattle.x509_ext.specs.declared.pkix.name.general_name.GeneralName.{GeneralName}
use Rattle.x509_ext.specs.declared.pkix.name.general_name.GeneralName.TheVariants.{OtherName}
use Rattle.x509_ext.specs.declared.pkix.name.hardware_module_name.HardwareModuleName.{HardwareModuleName}
use Rattle.x509_ext.specs.declared.pkix.name.other_name.OtherName as others

said_first : (x o : others.OtherName) (later : Option others.OtherName) (said : Bool) → bytes_eq x.type_id id_on_hardware_module_name ≡ said → (later ≡ Some o → o.type_id ≡ id_on_hardware_module_name) → or_else (if said then Some x else None) later ≡ Some o → o.type_id ≡ id_on_hardware_module_name
said_first x o later true is others_are e =
    let first : Some x ≡ Some o = e in
    let same : x ≡ o = cc in
    rw (← same) ((bytes_eq-Decides x.type_id id_on_hardware_module_name).0 is)
said_first x o later false is others_are e = others_are e

-- the first of which it is said has the identifier
first_is_said : (names : List GeneralName) (o : others.OtherName) → first_module names ≡ Some o → o.type_id ≡ id_on_hardware_module_name
first_is_said [] o e = absurd (cc)
first_is_said (OtherName x ∷ names) o e = said_first x o (first_module names) (bytes_eq x.type_id id_on_hardware_module_name) refl (first_is_said names o) e
first_is_said (name ∷ names) o e = first_is_said names o e

some_module : (found : Option HardwareModuleName) (o : others.OtherName) → IsSomeAnd found (λ h. hardware_module_name.good h × IsModuleIn h o.value) → IsModule o
some_module (Some h) o is = (h, is.0, is.1)
some_module None o is = absurd is

-- a value that was read there is a module
pub module_there : (names : List GeneralName) (o : others.OtherName) → Some o ≡ first_module names → (answer : Result (Option HardwareModuleName) Error) → (o.type_id ≡ id_on_hardware_module_name → IfOk answer (λ found. IsSomeAnd found (λ h. hardware_module_name.good h × IsModuleIn h o.value))) → (found : Option HardwareModuleName) → answer ≡ Ok found → HasModule (first_module names)
module_there names o first answer reads found was =
    let is = reads (first_is_said names o (sym first)) in
    rw (← first) (some_module found o (rw was at is))
