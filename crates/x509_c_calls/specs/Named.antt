-- What calls from C answer on types by their names, and on texts.
use Rattle.std.specs.Prelude.{◌≡◌, ℕ, List, Bool, true, false, nat_eq, Option, Some, None, Result, Err, if◌then◌else◌}
use Rattle.std.specs.Str.{is_utf8}
use Rattle.x509_der.specs.declared.error.ErrorKind.{ErrorKind}
use Rattle.x509_der.specs.declared.error.ErrorKind.TheVariants.{Failed}
use Rattle.x509_codec.specs.Answers.{Reencoding, Step}
use Rattle.x509_codec.specs.declared.profile_name.ProfileName.{ProfileName}
use Rattle.x509_codec.specs.declared.profile_name.ProfileName.TheVariants.{Rfc5280, Raw}

-- the profile with a number
abbrev pub profile_of : ℕ → Option ProfileName
profile_of number = if nat_eq number 0 then Some Rfc5280 else if nat_eq number 1 then Some Raw else None

-- which answers a step gives to a text, where it is UTF-8
abbrev pub IsTextAnswer : Step → Bool → List ℕ → Result (List ℕ) ErrorKind → Type 0
IsTextAnswer step true text answer = step text answer
IsTextAnswer step false text answer = answer ≡ Err Failed

-- which answers re-encoding gives to bytes of the type with a name, where there are such a profile and a text that is UTF-8
abbrev pub IsNamedAnswer : Reencoding → List ℕ → Option ProfileName → List ℕ → Result (List ℕ) ErrorKind → Type 0
IsNamedAnswer reencodes name (Some profile) bytes answer = IsTextAnswer (λ text. reencodes text profile bytes) (is_utf8 name) name answer
IsNamedAnswer reencodes name None bytes answer = answer ≡ Err Failed
