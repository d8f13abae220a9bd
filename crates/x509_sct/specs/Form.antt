-- The presentation language of TLS (RFC 5246 4): the bytes of a value are those of its fields, one after the other.
use Rattle.std.specs.Prelude.{◌≡◌, ◌≢◌, ℕ, zero, suc, ◌*◌, ◌<◌, ◌^◌, ◌⊎◌, List, [], ◌∷◌, ◌++◌, length, get_or, Ok, Err}
use Rattle.std.proofs.Common.{inl, inr}
use Rattle.std.specs.Int.{bytes_high_first}
use Rattle.x509_sct.specs.declared.tls.error.TlsError.{TlsError}
use Rattle.x509_sct.specs.declared.tls.error.TlsError.TheVariants.{EndOfStream, UnknownValue, TrailingData, InvalidVectorLength}
use Rattle.x509_sct.specs.FieldReading.{Reading, octets_at, number_at, name_at, counted_at, filled_at, both_at, struct_at, select_at}

-- The bytes of a value, the values that have bytes, and the first fault from the left of an input that begins with the
-- bytes of no value. reading is a tool of the proofs, tied to the rest by the law IsForm.
pub record Form (X : Type 0) : Type 1 where
  pub bytes : X → List ℕ
  pub good : X → Type 0
  pub fault : List ℕ → TlsError → Type 0
  pub reading : Reading X

abbrev pub AreOctets : List ℕ → Type 0
AreOctets input = (i : ℕ) → get_or input i 0 < 256

-- the input is the bytes of the value
abbrev pub Spells : {X : Type 0} → Form X → X → List ℕ → Type 0
Spells form value input = form.good value × (input ≡ form.bytes value)

-- the input is the bytes of the value and then rest
abbrev pub Begins : {X : Type 0} → Form X → X → List ℕ → List ℕ → Type 0
Begins form value rest input = form.good value × (input ≡ form.bytes value ++ rest)

-- a value stands in front, and P holds of it and of what follows it
pub record Behind {X : Type 0} (form : Form X) (P : X → List ℕ → Type 0) (input : List ℕ) : Type 0 where
  pub value : X
  pub rest : List ℕ
  pub begins : Begins form value rest input
  pub behind : P value rest

-- Exactly the inputs that begin with a value are read, as that value; of any other the first fault is told.
pub record IsForm {X : Type 0} (form : Form X) : Type 0 where
  pub sound : (input : List ℕ) (value : X) (rest : List ℕ) → AreOctets input → form.reading input ≡ Ok (value, rest) → Begins form value rest input
  pub complete : (value : X) (rest : List ℕ) → form.good value → form.reading (form.bytes value ++ rest) ≡ Ok (value, rest)
  pub faulty : (input : List ℕ) (e : TlsError) → AreOctets input → form.reading input ≡ Err e → form.fault input e
  pub first : (input : List ℕ) (e : TlsError) → form.fault input e → form.reading input ≡ Err e

-- ---- fields that have no fields

-- not all of k bytes are there
abbrev pub IsShort : ℕ → List ℕ → TlsError → Type 0
IsShort k input e = (length input < k) × (e ≡ EndOfStream)

-- opaque T[k]: k bytes (RFC 5246 4.3)
abbrev pub fixed : ℕ → Form (List ℕ)
fixed k = record { bytes = λ octets. octets; good = λ octets. length octets ≡ k; fault = IsShort k; reading = octets_at k }

-- a number of k bytes, the most significant first (RFC 5246 4.1, 4.4)
abbrev pub number : ℕ → Form ℕ
number k = record { bytes = bytes_high_first k; good = λ n. n < 2 ^ (8 * k); fault = IsShort k; reading = number_at k }

-- no byte is there, or one that is the byte of no value
abbrev pub IsUnnamed : {E : Type 0} → (E → ℕ) → List ℕ → TlsError → Type 0
IsUnnamed {E} byte [] e = e ≡ EndOfStream
IsUnnamed {E} byte (n ∷ rest) e = ((value : E) → byte value ≢ n) × (e ≡ UnknownValue n)

-- enum { .., (255) }: a byte that has a name (RFC 5246 4.5)
abbrev pub named : {E : Type 0} → (E → ℕ) → List E → Form E
named byte values = record { bytes = λ value. byte value ∷ []; good = λ value. Unit {0}; fault = IsUnnamed byte; reading = name_at byte values }

-- ---- fields made of fields

-- opaque T<0..>: how many bytes, and the bytes (RFC 5246 4.3)
abbrev pub counted : Form ℕ → Form (List ℕ)
counted count = record {
  bytes = λ octets. count.bytes (length octets) ++ octets;
  good = λ octets. count.good (length octets);
  fault = λ input e. count.fault input e ⊎ Behind count (λ n rest. IsShort n rest e) input;
  reading = counted_at count.reading;
}

-- opaque T<1..>: a vector of at least one byte (RFC 5246 4.3)
abbrev pub filled : Form (List ℕ) → Form (List ℕ)
filled vector = record {
  bytes = vector.bytes;
  good = λ octets. (0 < length octets) × vector.good octets;
  fault = λ input e. vector.fault input e ⊎ Behind vector (λ octets rest. (octets ≡ []) × (e ≡ InvalidVectorLength)) input;
  reading = filled_at vector.reading;
}

-- a field and another behind it (RFC 5246 4.6)
infixr 9 ◌⊗◌
abbrev pub ◌⊗◌ : {X Y : Type 0} → Form X → Form Y → Form (X × Y)
p ⊗ q = record {
  bytes = λ x. p.bytes x.0 ++ q.bytes x.1;
  good = λ x. p.good x.0 × q.good x.1;
  fault = λ input e. p.fault input e ⊎ Behind p (λ x rest. q.fault rest e) input;
  reading = both_at p.reading q.reading;
}

-- struct { .. }: the value to its fields, and back (RFC 5246 4.6)
abbrev pub struct : {X Y : Type 0} → (Y → X) → (X → Y) → Form X → Form Y
struct to from fields = record {
  bytes = λ value. fields.bytes (to value);
  good = λ value. fields.good (to value);
  fault = fields.fault;
  reading = struct_at from fields.reading;
}

-- ---- select (number) { case 0: X; case 1: Y } (RFC 5246 4.6.1)

-- the number of the case of a value, its bytes there, and the values that have bytes
abbrev pub case_of : {X Y : Type 0} → X ⊎ Y → ℕ
case_of (inl x) = 0
case_of (inr y) = 1

abbrev pub case_bytes : {X Y : Type 0} → Form X → Form Y → X ⊎ Y → List ℕ
case_bytes first second (inl x) = first.bytes x
case_bytes first second (inr y) = second.bytes y

abbrev pub case_good : {X Y : Type 0} → Form X → Form Y → X ⊎ Y → Type 0
case_good first second (inl x) = first.good x
case_good first second (inr y) = second.good y

-- the fault of what follows the number, or of a number that has no case
abbrev pub CaseFault : {X Y : Type 0} → Form X → Form Y → TlsError → ℕ → List ℕ → Type 0
CaseFault first second e zero rest = first.fault rest e
CaseFault first second e (suc zero) rest = second.fault rest e
CaseFault first second e (suc (suc n)) rest = e ≡ UnknownValue (suc (suc n))

-- the number of the case, and the value that stands there
abbrev pub select : {X Y : Type 0} → Form ℕ → Form X → Form Y → Form (X ⊎ Y)
select number first second = record {
  bytes = λ value. number.bytes (case_of value) ++ case_bytes first second value;
  good = λ value. number.good (case_of value) × case_good first second value;
  fault = λ input e. number.fault input e ⊎ Behind number (CaseFault first second e) input;
  reading = select_at number.reading first.reading second.reading;
}

-- ---- an input that is to be one value and nothing more

-- no value stands in front, or something is left behind it
abbrev pub IsWholeFault : {X : Type 0} → Form X → List ℕ → TlsError → Type 0
IsWholeFault form input e = form.fault input e ⊎ Behind form (λ value rest. (0 < length rest) × (e ≡ TrailingData)) input
