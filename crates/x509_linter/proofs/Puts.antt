-- What printing comes to, by what writing its text does.
use Rattle.std.proofs.Common.{ℕ, List, [], Err, inl, refl}
use Rattle.x509_linter.specs.Linter.{IsPut}
use Rattle.x509_object_run.specs.Object.{IsPrinted, Steps}
use Rattle.x509_object_run.specs.declared.fault.PrintError.{PrintError}
use Rattle.x509_object_run.specs.declared.fault.PrintError.TheVariants.{Memory, NoObject, Unwritten}

-- a text that may be printed isn't written whole
pub failed : {W : Type 0} (takes : Steps W) (old : W) (text : List ℕ) (new : W) (e : PrintError) (prints : List ℕ → ℕ → Type 0) (none : Type 0) (status : ℕ) → prints text status → IsPut takes old text new (Err e) → IsPrinted prints none takes old new (Err e)
failed takes old text new Unwritten prints none status may h = (text, status, may, h)
failed takes old text new Memory prints none status may h = ([], inl refl, (0, (refl, h)))
failed takes old text new NoObject prints none status may h = absurd h
