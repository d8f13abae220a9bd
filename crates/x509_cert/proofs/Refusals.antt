-- Parts that may be left out and can be written.
use Rattle.std.specs.Prelude.{◌≡◌, Option, Some, None, refl}
use Rattle.x509_der.specs.declared.error.ErrorKind.{ErrorKind}
use Rattle.x509_der.specs.FrameWriting.{optional_refusal}
use Rattle.x509_der.specs.Writing.{first}

pub never_refused : {X : Type 0} (value : Option X) → optional_refusal (λ (x : X). None) value ≡ None
never_refused None = refl
never_refused (Some x) = refl

-- nothing is refused before it
pub before_none : (refusal : Option ErrorKind) → first refusal None ≡ refusal
before_none None = refl
before_none (Some e) = refl
