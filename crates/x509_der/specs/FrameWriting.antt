-- Where a part that may be left out can't be written.
use Rattle.std.specs.Prelude.{◌≡◌, ℕ, List, [], Option, Some, None, Result, Ok, if◌then◌else◌, refl}
use Rattle.x509_der.specs.declared.error.ErrorKind.{ErrorKind}
use Rattle.x509_der.specs.Writing.{Writing, Kind, IsKind, Puts, plain, respelling, writes, in_option}
use Rattle.x509_der.specs.WritingLaws.{puts_nothing}
use Rattle.x509_der.specs.Frames.{Default, optional_octets}

abbrev pub optional_refusal : {X : Type 0} → (X → Option ErrorKind) → Option X → Option ErrorKind
optional_refusal refusal None = None
optional_refusal refusal (Some value) = refusal value

abbrev pub default_refusal : {X : Type 0} → Default X → (X → Option ErrorKind) → X → Option ErrorKind
default_refusal default refusal value = if default.is_default value then None else refusal value

--- a part that is left out puts nothing
pub puts_left_out : {R : Type 0} (k : Kind R) → IsKind k → (x : R) → Puts k [] None (Ok tt) x x
puts_left_out k h x = puts_nothing k h x

-- ---- a part that may be left out, where it is written otherwise than it is

pub text_in_option : {X : Type 0} (text : X → List ℕ) (w : Writing X) (value : Option X) → optional_octets text (writes (in_option w) value).value ≡ optional_octets (λ x. text (writes w x).value) value
text_in_option text plain None = refl
text_in_option text plain (Some x) = refl
text_in_option text (respelling by) None = refl
text_in_option text (respelling by) (Some x) = refl

pub refusal_in_option : {X : Type 0} (w : Writing X) (value : Option X) → (writes (in_option w) value).refusal ≡ optional_refusal (λ x. (writes w x).refusal) value
refusal_in_option plain None = refl
refusal_in_option plain (Some x) = refl
refusal_in_option (respelling by) None = refl
refusal_in_option (respelling by) (Some x) = refl
