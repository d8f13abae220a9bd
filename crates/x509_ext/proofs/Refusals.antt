-- A field with a default that can be written whether it is left out or not.
use Rattle.std.specs.Prelude.{◌≡◌, Bool, true, false, Option, None, if◌then◌else◌, refl}
use Rattle.x509_der.specs.declared.error.ErrorKind.{ErrorKind}

abbrev whole : Option ErrorKind
whole = None

pub no_refusal : (is_standard : Bool) → (if is_standard then whole else whole) ≡ whole
no_refusal true = refl
no_refusal false = refl
