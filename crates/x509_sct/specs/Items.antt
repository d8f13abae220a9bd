-- Items one after the other, to the end of the input.
use Rattle.std.specs.Prelude.{◌≡◌, ℕ, zero, suc, ◌<◌, List, [], ◌∷◌, ◌++◌, length, Result, Ok, Err}
use Rattle.std.specs.List.{flat_map, AllByRecursion}
use Rattle.x509_sct.specs.declared.tls.error.TlsError.{TlsError}
use Rattle.x509_sct.specs.declared.tls.error.TlsError.TheVariants.{EndOfStream}
use Rattle.x509_sct.specs.Outcome.{◌>>=◌}
use Rattle.x509_sct.specs.FieldReading.{Reading}
use Rattle.x509_sct.specs.Form.{Form}

-- the bytes of the values, joined
abbrev pub joined : {X : Type 0} → Form X → List X → List ℕ
joined form values = flat_map form.bytes values

abbrev pub AreGood : {X : Type 0} → Form X → List X → Type 0
AreGood form values = AllByRecursion form.good values

-- the input is the bytes of the values
abbrev pub AreItems : {X : Type 0} → Form X → List X → List ℕ → Type 0
AreItems form values input = AreGood form values × (input ≡ joined form values)

-- some items stand in front, something is left, and it begins with no item
pub record ItemsFault {X : Type 0} (form : Form X) (input : List ℕ) (e : TlsError) : Type 0 where
  pub values : List X
  pub rest : List ℕ
  pub good : AreGood form values
  pub front : input ≡ joined form values ++ rest
  pub left : 0 < length rest
  pub fault : form.fault rest e

-- ---- how items are read: a tool of the proofs, tied to the rest by IsItems

-- at most n items
unfoldable pub items_at : {X : Type 0} → ℕ → Reading X → List ℕ → Result (List X) TlsError
items_at n read [] = Ok []
items_at zero read (b ∷ input) = Err EndOfStream
items_at (suc n) read (b ∷ input) = read (b ∷ input) >>= λ x. items_at n read x.1 >>= λ xs. Ok (x.0 ∷ xs)

abbrev pub items_reading : {X : Type 0} → Reading X → List ℕ → Result (List X) TlsError
items_reading read input = items_at (length input) read input

-- reading a value takes at least one byte
abbrev pub Moves : {X : Type 0} → Reading X → Type 0
Moves {X} read = (input : List ℕ) (value : X) (rest : List ℕ) → read input ≡ Ok (value, rest) → length rest < length input

-- what was read in front, and behind it what reading gives
abbrev pub with_front : {X : Type 0} → List X → Result (List X) TlsError → Result (List X) TlsError
with_front front read = read >>= λ xs. Ok (front ++ xs)
