-- A list: how many bytes there are, and items that are just these bytes (RFC 6962 3.3).
use Rattle.std.specs.Prelude.{◌≡◌, ℕ, ◌⊎◌, List, [], ◌∷◌, Result, Err}
use Rattle.x509_sct.specs.declared.tls.error.TlsError.{TlsError}
use Rattle.x509_sct.specs.declared.tls.error.TlsError.TheVariants.{TrailingData}
use Rattle.x509_sct.specs.Outcome.{◌>>=◌}
use Rattle.x509_sct.specs.FieldReading.{Reading, counted_at}
use Rattle.x509_sct.specs.Form.{Form, Spells, Behind, counted}
use Rattle.x509_sct.specs.Items.{joined, AreGood, ItemsFault, items_reading}

-- the input is the list of the values: the length of their bytes, and their bytes
abbrev pub IsList : {X : Type 0} → Form ℕ → Form X → List X → List ℕ → Type 0
IsList count item values input = AreGood item values × Spells (counted count) (joined item values) input

-- Once the announced bytes are there: something is left behind them, or else what they hold is faulty.
abbrev pub BodyFault : {X : Type 0} → Form X → TlsError → List ℕ → List ℕ → Type 0
BodyFault item e body [] = ItemsFault item body e
BodyFault item e body (b ∷ rest) = e ≡ TrailingData

-- the announced bytes aren't there, or the body is faulty
abbrev pub ListFault : {X : Type 0} → Form ℕ → Form X → List ℕ → TlsError → Type 0
ListFault count item input e = (counted count).fault input e ⊎ Behind (counted count) (BodyFault item e) input

-- ---- how lists are read: a tool of the proofs, tied to the rest by the laws

abbrev pub body_reading : {X : Type 0} → Reading X → List ℕ × List ℕ → Result (List X) TlsError
body_reading read (body, []) = items_reading read body
body_reading read (body, b ∷ rest) = Err TrailingData

unfoldable pub list_reading : {X : Type 0} → Reading ℕ → Reading X → List ℕ → Result (List X) TlsError
list_reading count read input = counted_at count input >>= body_reading read
