-- Where a walk over the certificates of a log's chain stands, and what stands there (RFC 6962 3.1).
use Rattle.std.specs.Prelude.{◌≡◌, ◌+◌, ◌⊎◌, ℕ, List, [], ◌++◌, length}
use Rattle.x509_c_calls.specs.Place.{IsAt}
use Rattle.x509_c_calls.specs.declared.place.span.Span.{Span}
use Rattle.x509_c_calls.specs.declared.status.status.Status.{Status}
use Rattle.x509_c_calls.specs.declared.status.status.Status.TheVariants.{Done, NoRoom, Absent, Repeated, Faulty, Limit, Refused}
use Rattle.x509_der.specs.declared.error.ErrorKind.TheVariants.{Malformed}
use Rattle.x509_sct.specs.Form.{counted}
use Rattle.x509_sct.specs.Numbers.{uint24, vector24}

-- The bytes are a chain, ASN.1Cert<0..2^24-1>, and these octets are what is left of its certificates from a place in the bytes on. The place 0 is where the
-- first certificate begins.
pub record IsChainLeft (bytes : List ℕ) (at : ℕ) (left : List ℕ) : Type 0 where
  pub passed : List ℕ
  pub whole : bytes ≡ (counted uint24).bytes (passed ++ left)
  pub short : (counted uint24).good (passed ++ left)
  pub place : ((at ≡ 0) × (passed ≡ [])) ⊎ (at + length left ≡ length bytes)

-- A certificate, opaque<1..2^24-1>, stands at the place that was, its octets in the span, and more behind it; the place that is, is the one behind it.
pub record IsNextCertificate (bytes : List ℕ) (was is : ℕ) (octets more : List ℕ) (span : Span) : Type 0 where
  pub left : IsChainLeft bytes was (vector24.bytes octets ++ more)
  pub good : vector24.good octets
  pub stands : IsAt octets more bytes span
  pub behind : is ≡ span.place + span.len

-- octets are left, and they begin with no certificate
pub record IsNoCertificate (bytes : List ℕ) (at : ℕ) : Type 0 where
  pub left : List ℕ
  pub is_left : IsChainLeft bytes at left
  pub some : left ≡ [] → ⊥
  pub none : (octets more : List ℕ) → vector24.good octets → left ≡ vector24.bytes octets ++ more → ⊥

-- there is no such chain, the place isn't in it, or no certificate stands there
abbrev pub StopsChain : List ℕ → ℕ → Type 0
StopsChain bytes at = ((left : List ℕ) → IsChainLeft bytes at left → ⊥) ⊎ IsNoCertificate bytes at

-- What a call leaves that asks for the next certificate. Done: there is one. Absent: the chain ends there. What isn't filled in stays as it was.
unfoldable pub StepsChain : List ℕ → ℕ → ℕ → Span → Span → Status → Type 0
StepsChain bytes was is old new Done = (octets : List ℕ) × (more : List ℕ) × IsNextCertificate bytes was is octets more new
StepsChain bytes was is old new Absent = IsChainLeft bytes was [] × (is ≡ was) × (new ≡ old)
StepsChain bytes was is old new (Refused e) = (e ≡ Malformed) × StopsChain bytes was × (is ≡ was) × (new ≡ old)
StepsChain bytes was is old new NoRoom = ⊥
StepsChain bytes was is old new Repeated = ⊥
StepsChain bytes was is old new Faulty = ⊥
StepsChain bytes was is old new Limit = ⊥
