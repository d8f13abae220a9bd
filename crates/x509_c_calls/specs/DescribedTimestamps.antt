-- Lists of timestamps that are encoded of these (RFC 6962 3.3).
use Rattle.std.specs.List.{list_any}
use Rattle.std.specs.Prelude.{◌≡◌, ◌<◌, ◌⊎◌, ℕ, List, [], length, nat_eq, false, true}
use Rattle.x509_c_calls.specs.Pieces.{AreCut}
use Rattle.x509_der.specs.declared.error.ErrorKind.{ErrorKind}
use Rattle.x509_der.specs.declared.error.ErrorKind.TheVariants.{Failed, Overlength, Value}
use Rattle.x509_sct.specs.Items.{joined}
use Rattle.x509_sct.specs.Lists.{IsList}
use Rattle.x509_sct.specs.Numbers.{uint16, vector16}

-- The octets are the list of the serialized timestamps into which the bytes are cut: SerializedSCT<1..2^16-1>, each opaque<1..2^16-1>.
abbrev pub IsTimestampListOf : List ℕ → List ℕ → List ℕ → Type 0
IsTimestampListOf bytes lens octets =
    (pieces : List (List ℕ)) × AreCut bytes lens pieces × IsList uint16 vector16 pieces octets × (lens ≡ [] → ⊥) × (list_any (λ len. nat_eq len 0) lens ≡ false)

-- there is none: there is no timestamp, or one has no octets; the lengths don't add up; or they are too long together, each with two octets for its length
abbrev pub RefusesTimestampList : List ℕ → List ℕ → ErrorKind → Type 0
RefusesTimestampList bytes lens e =
    ((e ≡ Value) × ((lens ≡ []) ⊎ (list_any (λ len. nat_eq len 0) lens ≡ true)))
    ⊎ (((e ≡ Failed) × ((pieces : List (List ℕ)) → AreCut bytes lens pieces → ⊥))
    ⊎ ((e ≡ Overlength) × ((pieces : List (List ℕ)) × AreCut bytes lens pieces × (65535 < length (joined vector16 pieces)))))
