-- Which answers there may be, out of memory aside.
use Rattle.std.specs.Prelude.{ℕ, List, Option, Result}
use Rattle.x509_codec.specs.declared.profile_name.ProfileName.{ProfileName}
use Rattle.x509_der.specs.declared.error.ErrorKind.{ErrorKind}

-- to bytes of the type with a name, decoded and encoded again under a profile
abbrev pub Reencoding : Type 1
Reencoding = List ℕ → ProfileName → List ℕ → Result (List ℕ) ErrorKind → Type 0

-- to bytes
abbrev pub Step : Type 1
Step = List ℕ → Result (List ℕ) ErrorKind → Type 0

-- to a path: at the moment of a text, of the bytes of an anchor's certificate and of those of a path under it, nothing where it holds, else its first fault
abbrev pub PathStep : Type 1
PathStep = List ℕ → List ℕ → List (List ℕ) → Result (Option (List ℕ)) ErrorKind → Type 0
