-- The names of profiles.
use Rattle.std.specs.Prelude.{ℕ, List, Option, Some, None, codes, if◌then◌else◌}
use Rattle.std.specs.Str.{bytes_eq}
use Rattle.x509_codec.specs.declared.profile_name.ProfileName.{ProfileName}
use Rattle.x509_codec.specs.declared.profile_name.ProfileName.TheVariants.{Rfc5280, Raw}

-- the profile that a word names
abbrev pub profile_of : List ℕ → Option ProfileName
profile_of word =
    if bytes_eq word (codes "rfc5280") then Some Rfc5280
    else if bytes_eq word (codes "raw") then Some Raw
    else None
