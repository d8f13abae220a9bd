-- What the calls take: encodings one after the other.
use Rattle.std.specs.Prelude.{◌≡◌, ◌<◌, ◌⊎◌, ℕ, List, [], ◌∷◌, Option, Some, None}
use Rattle.x509_base.specs.CivilTime.{last_date_time, unix_seconds}
use Rattle.x509_der.specs.Outcome.{IsRefusal}
use Rattle.x509_der.specs.declared.error.ErrorKind.{ErrorKind}
use Rattle.x509_der.specs.declared.error.ErrorKind.TheVariants.{Malformed, Value}
use Rattle.x509_der.specs.List.{all_good, joined, list_reading}
use Rattle.x509_der.specs.Form.{Form, spelling}

-- the bytes are the encodings of these values, one after the other
abbrev pub SpellEach : {X : Type 0} → Form X → List X → List ℕ → Type 0
SpellEach form values bytes = all_good form.good values × (bytes ≡ joined (spelling form) values)

-- They are those of no values: as Malformed or as a refusal of the type's own, and which of them is said by reading.
abbrev pub RefusesEach : {X : Type 0} → Form X → (ErrorKind → Type 0) → List ℕ → ErrorKind → Type 0
RefusesEach {X} form refuses bytes e =
    ((e ≡ Malformed) ⊎ refuses e) × ((values : List X) → SpellEach form values bytes → ⊥) × IsRefusal e (list_reading form.reading bytes)

-- a time after 9999-12-31T23:59:59Z
abbrev pub RefusesTime : ℕ → ErrorKind → Type 0
RefusesTime seconds e = (e ≡ Value) × (unix_seconds last_date_time < seconds)

-- a moment that is before the one that it may not be before
abbrev pub RefusesOrder : ℕ → ℕ → ErrorKind → Type 0
RefusesOrder first second e = (e ≡ Value) × (second < first)

-- a list that is left out where it has no members
abbrev pub unless_empty : {X : Type 0} → List X → Option (List X)
unless_empty [] = None
unless_empty (x ∷ xs) = Some (x ∷ xs)
