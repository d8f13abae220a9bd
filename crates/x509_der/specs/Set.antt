-- SET OF: the elements of the members, one after the other, in the byte order of their elements (X.690 8.12, 11.6). Our sets have no
-- member twice, so each element is below the next.
use Rattle.std.specs.Prelude.{◌≡◌, ◌<◌, ℕ, Bool, true, ◌&&◌, List, [], ◌∷◌, length, get_or, Result, Ok, Err, if◌then◌else◌}
use Rattle.std.specs.List.Sorted.{IsStrictlySortedBy}
use Rattle.std.specs.Ordering.{is_lt}
use Rattle.x509_der.specs.declared.error.ErrorKind.{ErrorKind}
use Rattle.x509_der.specs.declared.error.ErrorKind.TheVariants.{Malformed}
use Rattle.x509_der.specs.Outcome.{◌>>=◌}
use Rattle.x509_der.specs.Form.{Form, Contents, spelling}
use Rattle.x509_der.specs.Order.{Order}
use Rattle.x509_der.specs.List.{joined, all_good, list_reading}

-- the members have spellings, and each is below all that follow it
unfoldable pub set_good : {X : Type 0} → Order X → (X → Type 0) → List X → Type 0
set_good order good members = all_good good members × IsStrictlySortedBy order members

-- ---- reading, a tool of the proofs

unfoldable pub is_below_all : {X : Type 0} → Order X → X → List X → Bool
is_below_all order x [] = true
is_below_all order x (y ∷ ys) = is_lt (order x y) && is_below_all order x ys

unfoldable pub is_rising : {X : Type 0} → Order X → List X → Bool
is_rising order [] = true
is_rising order (x ∷ xs) = is_below_all order x xs && is_rising order xs

abbrev pub if_rising : {X : Type 0} → Order X → List X → Result (List X) ErrorKind
if_rising order members = if is_rising order members then Ok members else Err Malformed

unfoldable pub set_reading : {X : Type 0} → Order X → (ℕ → List ℕ → Result X ErrorKind) → List ℕ → Result (List X) ErrorKind
set_reading order read bytes = list_reading read bytes >>= if_rising order

-- ---- the form

abbrev pub set_of : {X : Type 0} → Form X → Order X → Contents (List X)
set_of form order = record { octets = joined (spelling form); good = set_good order form.good; reading = set_reading order form.reading }

-- ---- members

-- no two of them are equal
abbrev pub AreDistinct : {X : Type 0} → List X → Type 0
AreDistinct {X} members = (i j : ℕ) (other : X) → i < j → j < length members → get_or members i other ≡ get_or members j other → ⊥
