-- Where a walk over the timestamps of an extension's value stands, and what stands there (RFC 6962 3.3).
use Rattle.std.specs.Prelude.{◌≡◌, ◌+◌, ◌⊎◌, ℕ, List, [], ◌++◌, length}
use Rattle.x509_c_calls.specs.Place.{IsAt}
use Rattle.x509_c_calls.specs.declared.place.span.Span.{Span}
use Rattle.x509_c_calls.specs.declared.status.status.Status.{Status}
use Rattle.x509_c_calls.specs.declared.status.status.Status.TheVariants.{Done, NoRoom, Absent, Repeated, Faulty, Limit, Refused}
use Rattle.x509_der.specs.Element.{element}
use Rattle.x509_der.specs.declared.error.ErrorKind.TheVariants.{Malformed}
use Rattle.x509_sct.specs.Numbers.{vector16}

-- The bytes are an OCTET STRING that holds a list, SerializedSCT<0..2^16-1>, and these octets are what is left of the list's items from a place in the bytes
-- on. The place 0 is where the first item begins.
pub record IsLeft (bytes : List ℕ) (at : ℕ) (left : List ℕ) : Type 0 where
  pub passed : List ℕ
  pub whole : bytes ≡ element 4 (vector16.bytes (passed ++ left))
  pub short : vector16.good (passed ++ left)
  pub place : ((at ≡ 0) × (passed ≡ [])) ⊎ (at + length left ≡ length bytes)

-- A serialized timestamp, opaque<0..2^16-1>, stands at the place that was, its octets in the span, and more behind it; the place that is, is the one behind it.
pub record IsNext (bytes : List ℕ) (was is : ℕ) (octets more : List ℕ) (span : Span) : Type 0 where
  pub left : IsLeft bytes was (vector16.bytes octets ++ more)
  pub good : vector16.good octets
  pub stands : IsAt octets more bytes span
  pub behind : is ≡ span.place + span.len

-- octets are left, and they begin with no serialized timestamp
pub record IsNoItem (bytes : List ℕ) (at : ℕ) : Type 0 where
  pub left : List ℕ
  pub is_left : IsLeft bytes at left
  pub some : left ≡ [] → ⊥
  pub none : (octets more : List ℕ) → vector16.good octets → left ≡ vector16.bytes octets ++ more → ⊥

-- there is no such list, the place isn't in it, or no serialized timestamp stands there
abbrev pub Stops : List ℕ → ℕ → Type 0
Stops bytes at = ((left : List ℕ) → IsLeft bytes at left → ⊥) ⊎ IsNoItem bytes at

-- What a call leaves that asks for the next timestamp. Done: there is one. Absent: the list ends there. What isn't filled in stays as it was.
unfoldable pub Steps : List ℕ → ℕ → ℕ → Span → Span → Status → Type 0
Steps bytes was is old new Done = (octets : List ℕ) × (more : List ℕ) × IsNext bytes was is octets more new
Steps bytes was is old new Absent = IsLeft bytes was [] × (is ≡ was) × (new ≡ old)
Steps bytes was is old new (Refused e) = (e ≡ Malformed) × Stops bytes was × (is ≡ was) × (new ≡ old)
Steps bytes was is old new NoRoom = ⊥
Steps bytes was is old new Repeated = ⊥
Steps bytes was is old new Faulty = ⊥
Steps bytes was is old new Limit = ⊥
