-- What is written of a value, and what a call that writes leaves.
use Rattle.std.specs.Prelude.{◌≡◌, ℕ, ◌+◌, ◌<◌, ◌≤◌, ◌⊎◌, List, [], ◌++◌, length, Option, Some, None, Result, Ok, Err}
use Rattle.x509_der.specs.declared.error.Error.{Error}
use Rattle.x509_der.specs.declared.error.ErrorKind.{ErrorKind}
use Rattle.x509_der.specs.declared.error.ErrorKind.TheVariants.{Memory, Overlength}
use Rattle.x509_der.specs.Element.{limit}
use Rattle.x509_der.specs.Form.{Form, spelling}

-- ---- values

-- The value that is spelled, and the refusal where a part of it can't be written; such a part stays as it is in value.
pub record Written (X : Type 0) : Type 0 where
  pub value : X
  pub refusal : Option ErrorKind

-- How the values of a type are written: as they are, or by a function.
pub data Writing (X : Type 0) : Type 0 where
  plain : Writing X
  respelling : (X → Written X) → Writing X

abbrev pub writes : {X : Type 0} → Writing X → X → Written X
writes plain value = record { value = value; refusal = None }
writes (respelling by) value = by value

-- a value one field of which is written by a function of its own, and the others as they are
abbrev pub with_field : {X Y : Type 0} → (X → Y) → (X → Y → X) → Writing Y → Writing X
with_field get put plain = plain
with_field get put (respelling by) = respelling (λ x. record { value = put x (by (get x)).value; refusal = (by (get x)).refusal })

-- a value that may be left out, written by a function of its own
abbrev pub written_option : {X : Type 0} → (X → Written X) → Option X → Written (Option X)
written_option by None = record { value = None; refusal = None }
written_option by (Some x) = record { value = Some (by x).value; refusal = (by x).refusal }

abbrev pub in_option : {X : Type 0} → Writing X → Writing (Option X)
in_option plain = plain
in_option (respelling by) = respelling (written_option by)

-- what a step answers in place of a part: the part stays as it is where the step is refused
abbrev pub respelled : {X : Type 0} → X → Result X ErrorKind → Written X
respelled part (Ok other) = record { value = other; refusal = None }
respelled part (Err e) = record { value = part; refusal = Some e }

-- the refusal of two that is met first
abbrev pub first : Option ErrorKind → Option ErrorKind → Option ErrorKind
first (Some e) later = Some e
first None later = later

-- ---- rooms

-- A kind of room: what it is to have put bytes in front of those that stood, and nothing else; how many bytes stand;
-- how many may stand; and whether a call may want memory.
pub record Kind (R : Type 0) : Type 1 where
  pub puts : List ℕ → R → R → Type 0
  pub count : R → ℕ
  pub most : R → ℕ
  pub lacks : Type 0

pub record IsKind {R : Type 0} (kind : Kind R) : Type 0 where
  pub nothing : (x : R) → kind.puts [] x x
  pub further : (a b : List ℕ) (x y z : R) → kind.puts b x y → kind.puts a y z → kind.puts (a ++ b) x z
  pub counted : (a : List ℕ) (x y : R) → kind.puts a x y → kind.count y ≡ length a + kind.count x
  pub same_most : (a : List ℕ) (x y : R) → kind.puts a x y → kind.most x ≡ kind.most y
  pub within : (x : R) → kind.most x ≤ limit

-- What a call that puts a text in front of what stands answers: the text is put; or out of memory; or the text and
-- what stands are too long; or the text is refused.
abbrev pub Puts : {R : Type 0} → Kind R → List ℕ → Option ErrorKind → Result Unit Error → R → R → Type 0
Puts kind text refusal (Ok done) old new = (refusal ≡ None) × kind.puts text old new
Puts kind text refusal (Err e) old new =
    ((e.kind ≡ Memory) × kind.lacks) ⊎ (((e.kind ≡ Overlength) × (kind.most old < length text + kind.count old)) ⊎ (refusal ≡ Some e.kind))

-- ---- what a writer answers

-- the bytes that are written for a value
abbrev pub written_spelling : {X : Type 0} → Form X → Written X → List ℕ
written_spelling form written = spelling form written.value

-- the value can be written in that many octets
abbrev pub IsWritable : {X : Type 0} → Form X → Written X → ℕ → Type 0
IsWritable form written most = (written.refusal ≡ None) × (length (written_spelling form written) ≤ most)

-- it can't be, for this reason
abbrev pub IsUnwritable : {X : Type 0} → Form X → Written X → ℕ → ErrorKind → Type 0
IsUnwritable form written most e = (written.refusal ≡ Some e) ⊎ ((e ≡ Overlength) × (most < length (written_spelling form written)))

-- ---- writing again

-- What is written of a good value is a good value, which is written as it is.
pub record IsStable {X : Type 0} (good : X → Type 0) (writing : Writing X) : Type 0 where
  pub kept : (value : X) → good value → (writes writing value).refusal ≡ None → good (writes writing value).value
  pub again : (value : X) → good value → (writes writing value).refusal ≡ None → writes writing (writes writing value).value ≡ record { value = (writes writing value).value; refusal = None }

-- Of two good values that are written, and written alike, the same value is spelled.
abbrev pub RespellsAlike : {X : Type 0} → Form X → (X → Type 0) → Writing X → Type 0
RespellsAlike {X} form good writing =
    (v w : X) → good v → good w → (writes writing v).refusal ≡ None → (writes writing w).refusal ≡ None
    → written_spelling form (writes writing v) ≡ written_spelling form (writes writing w) → (writes writing v).value ≡ (writes writing w).value
