use Rattle.std.proofs.Common.{arith}
use Rattle.x509_check.proofs.KnownEntries.{is_piece, not_refused, some_piece, some_value}
use Rattle.x509_check.proofs.LentCertificates.{is_read}
use Rattle.x509_crl_index.proofs.Putting.{content_shorter}
use Rattle.x509_crl_index.proofs.entry.known_entry.Goals as goal

pub unreachable-requires : goal.unreachable-requires
unreachable-requires g c =
    let v = some_value _ c.requires.known in
    let piece = some_piece {P = g.row.P.Denot} g.P.Profile.serial_check c.args.bytes.now v.0.0 v.0.1 v.1 in
    not_refused c.args.bytes.now piece.0 _ piece.1 c.in_default.ensures.exact c.in_default.ensures.err

pub known_content-requires-clause-within : goal.known_content-requires-clause-within
known_content-requires-clause-within g c κs within =
    let shorter = content_shorter c.args.bytes.now _ c.in-Ok.ensures.exact in omega (arith, shorter, c.requires.within)

pub known_content-requires-clause-known : goal.known_content-requires-clause-known
known_content-requires-clause-known g c κs within =
    let v = some_value _ c.requires.known in
    is_read _ v.0.0 (is_piece {P = g.row.P.Denot} g.P.Profile.serial_check c.args.bytes.now v.0.0 v.0.1 _ c.in-Ok.ensures.exact v.1).read

pub returns : goal.returns
returns g c = λ entry rest read.
    let stands = is_piece {P = g.row.P.Denot} g.P.Profile.serial_check c.args.bytes.now entry rest _ c.in-Ok.ensures.exact read in
    c.known_content.ensures entry stands.read
