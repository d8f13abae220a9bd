-- SEQUENCE OF: the elements of the members, one after the other (X.690 8.10).
use Rattle.std.specs.Prelude.{ℕ, zero, suc, List, [], ◌∷◌, ◌++◌, length, Option, None, Result, Ok, Err}
use Rattle.x509_der.specs.declared.error.ErrorKind.{ErrorKind}
use Rattle.x509_der.specs.declared.error.ErrorKind.TheVariants.{Malformed}
use Rattle.x509_der.specs.Outcome.{◌>>=◌}
use Rattle.x509_der.specs.Form.{Form, Contents, spelling}
use Rattle.x509_der.specs.Writing.{Written, Writing, plain, respelling, first}
use Rattle.x509_der.specs.Frames.{field_at}

unfoldable pub joined : {X : Type 0} → (X → List ℕ) → List X → List ℕ
joined text [] = []
joined text (value ∷ values) = text value ++ joined text values

unfoldable pub all_good : {X : Type 0} → (X → Type 0) → List X → Type 0
all_good good [] = Unit {0}
all_good good (value ∷ values) = good value × all_good good values

-- the members up to the end of the bytes, at most n
unfoldable pub members_at : {X : Type 0} → ℕ → (ℕ → List ℕ → Result X ErrorKind) → List ℕ → Result (List X) ErrorKind
members_at n read [] = Ok []
members_at zero read (b ∷ bytes) = Err Malformed
members_at (suc n) read (b ∷ bytes) = field_at read (b ∷ bytes) >>= λ x. members_at n read x.1 >>= λ xs. Ok (x.0 ∷ xs)

abbrev pub list_reading : {X : Type 0} → (ℕ → List ℕ → Result X ErrorKind) → List ℕ → Result (List X) ErrorKind
list_reading read bytes = members_at (length bytes) read bytes

abbrev pub list_of : {X : Type 0} → Form X → Contents (List X)
list_of form = record { octets = joined (spelling form); good = all_good form.good; reading = list_reading form.reading }

-- what was read before, and what is still read
abbrev pub with_front : {X : Type 0} → List X → Result (List X) ErrorKind → Result (List X) ErrorKind
with_front front read = read >>= λ xs. Ok (front ++ xs)

-- ---- what is written of the members

unfoldable pub members_value : {X : Type 0} → (X → Written X) → List X → List X
members_value write [] = []
members_value write (value ∷ values) = (write value).value ∷ members_value write values

-- the last member is asked first
unfoldable pub members_refusal : {X : Type 0} → (X → Written X) → List X → Option ErrorKind
members_refusal write [] = None
members_refusal write (value ∷ values) = first (members_refusal write values) (write value).refusal

abbrev pub members_text : {X : Type 0} → Form X → (X → Written X) → List X → List ℕ
members_text form write values = joined (spelling form) (members_value write values)

abbrev pub members_writing : {X : Type 0} → Writing X → Writing (List X)
members_writing plain = plain
members_writing (respelling write) = respelling (λ values. record { value = members_value write values; refusal = members_refusal write values })
