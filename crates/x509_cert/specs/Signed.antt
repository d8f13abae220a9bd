-- The part that a signature is over, and where it stands.
use Rattle.std.specs.Prelude.{◌≡◌, ◌≤◌, ℕ, List, ◌++◌, length}
use Rattle.x509_der.specs.Element.{element, limit}

-- The bytes are one SEQUENCE, and this one stands at the front of its content (RFC 5280 4.1, 5.1, RFC 2986 4.2).
pub record IsSignedPart (bytes signed : List ℕ) : Type 0 where
  pub content : List ℕ
  pub behind : List ℕ
  pub part : signed ≡ element 0x30 content
  pub whole : bytes ≡ element 0x30 (signed ++ behind)
  pub within : length bytes ≤ limit
