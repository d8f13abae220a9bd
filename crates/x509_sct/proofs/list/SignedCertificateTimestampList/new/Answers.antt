use Rattle.std.proofs.Common.{◌≤◌, length, ap, arith}
use Rattle.x509_der.specs.ContentLaws.{content_fits}
use Rattle.x509_sct.proofs.list.SignedCertificateTimestampList.new.Goals as goal

-- a list is never too long for an OCTET STRING
pub returns-in_err-from_vec-clause-err : goal.returns-in_err-from_vec-clause-err
returns-in_err-from_vec-clause-err c =
    let octets = c.in_ok-octets.octets.items in
    let list = c.in_ok-octets.ensures.ok.1 in
    let short : length octets ≤ 268435449 = omega (arith, list.0, ap length list.1) in
    absurd (omega (arith, c.in_err-from_vec.ensures.err.1, content_fits octets short 4))
