-- The entries of a CRL, one after the other.
use Rattle.std.proofs.Common.{◌≡◌, ◌≤◌, ℕ, ◌+◌, List, length, Ok, ap, arith, length-append}
use Rattle.x509_base.specs.Profiles.{rfc5280_serial_number}
use Rattle.x509_base.specs.declared.profile.Rfc5280.{Rfc5280}
use Rattle.x509_c_calls.proofs.CrlFields.{element_length}
use Rattle.x509_cert.specs.RevokedCert.{revoked_cert}
use Rattle.x509_cert.specs.declared.crl.revoked_cert.RevokedCert.{RevokedCert}
use Rattle.x509_der.specs.Element.{element}
use Rattle.x509_der.specs.ElementLaws.{piece_at-sound}
use Rattle.x509_der.specs.ElementReading.{Piece, piece_at}
use Rattle.x509_der.specs.Form.{Form}

abbrev pub entry_form : Form (RevokedCert Rfc5280)
entry_form = revoked_cert rfc5280_serial_number

-- an element is longer than nothing
pub shorter : (rest : List ℕ) (piece : Piece) → piece_at rest ≡ Ok piece → 1 + length piece.rest ≤ length rest
shorter rest piece p = omega (arith, ap length (piece_at-sound rest piece p).0, length-append (element piece.tag piece.content) piece.rest, element_length piece.tag piece.content)
