-- How long an element is.
use Rattle.std.proofs.Common.{◌≡◌, ℕ, ◌+◌, ◌<◌, List, length, Ok, ap, arith, length-append}
use Rattle.x509_der.specs.Element.{element, length_octets}
use Rattle.x509_der.specs.ElementLaws.{piece_at-sound}
use Rattle.x509_der.specs.ElementReading.{Piece, piece_at}

-- the content and what follows it are shorter
pub piece_within : (bytes : List ℕ) (piece : Piece) → piece_at bytes ≡ Ok piece → length piece.content + length piece.rest < length bytes
unfolding element
piece_within bytes piece e = omega (arith, ap length (piece_at-sound bytes piece e).0, length-append (element piece.tag piece.content) piece.rest, length-append (length_octets (length piece.content)) piece.content)
