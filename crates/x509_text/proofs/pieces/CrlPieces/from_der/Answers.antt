use Rattle.std.proofs.Common.{◌≤◌, length, arith}
use Rattle.x509_der.specs.Element.{limit}
use Rattle.x509_text.proofs.Begins.{shown_crl}
use Rattle.x509_text.proofs.pieces.CrlPieces.from_der.Goals as goal

pub returns-in-Ok : goal.returns-in-Ok
returns-in-Ok c =
    let within : length c.args.bytes.now ≤ limit = omega arith in
    let split = c.in-Ok.ensures in
    shown_crl c.args.style c.args.bytes.now split.0 c.in-Ok.crl c.in-Ok.octets.now within split.1 split.2
