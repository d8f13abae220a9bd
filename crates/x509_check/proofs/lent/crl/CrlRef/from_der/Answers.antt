use Rattle.std.proofs.Common.{◌≤◌, length, Ok, Err, [], refl, arith}
use Rattle.x509_cert.specs.CertificateList.{certificate_list, certificate_list_lawful}
use Rattle.x509_check.proofs.LentCertificates.{is_read}
use Rattle.x509_check.proofs.LentCrls.{parts_read}
use Rattle.x509_check.proofs.LentEntries.{so_found, so_every, so_refused}
use Rattle.x509_check.specs.CrlWalk.{WalksList}
use Rattle.x509_der.specs.Element.{limit}
use Rattle.x509_check.proofs.lent.crl.CrlRef.from_der.Goals as goal

pub returns-in-Ok-clause-found : goal.returns-in-Ok-clause-found
returns-in-Ok-clause-found g c =
    let within : length c.args.bytes.now ≤ limit = omega arith in
    let h = so_found (certificate_list {P = g.row.P.Denot} g.P.Profile.serial_check) (certificate_list_lawful g.P.Profile.serial_check) (WalksList g.P.Profile.serial_check []) c.args.bytes.now (Ok c.in-Ok.walked) within c.in-Ok.ensures in
    (refl, (h.0, h.1))

pub returns-in-Err-clause-refused : goal.returns-in-Err-clause-refused
returns-in-Err-clause-refused g c = λ within. so_refused (certificate_list {P = g.row.P.Denot} g.P.Profile.serial_check) (certificate_list_lawful g.P.Profile.serial_check) (WalksList g.P.Profile.serial_check []) c.args.bytes.now (Err c.in-Err.e) c.in-Err.ensures

pub returns-in-Err-clause-every : goal.returns-in-Err-clause-every
returns-in-Err-clause-every g c = so_every (certificate_list {P = g.row.P.Denot} g.P.Profile.serial_check) (certificate_list_lawful g.P.Profile.serial_check) (WalksList g.P.Profile.serial_check []) c.args.bytes.now (Err c.in-Err.e) c.in-Err.ensures

pub invariant_of-result : goal.invariant_of-result
invariant_of-result g c =
    let within : length c.args.bytes.now ≤ limit = omega arith in
    let h = c.in-Ok.ensures in
    record { within = within; checked = is_read _ _ h.1; lent = parts_read g.P.Profile.serial_check c.args.bytes.now c.in-Ok.walked.parts h.0 h.1 h.2.1 }
