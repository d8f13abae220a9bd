use Rattle.std.proofs.Common.{◌≤◌, length, Ok, Err, refl, arith, ◌∙◌}
use Rattle.x509_cert.specs.Certificate.{certificate, certificate_lawful}
use Rattle.x509_check.proofs.LentCertificates.{elements_read, is_read, same_dates}
use Rattle.x509_check.proofs.LentEntries.{so_found, so_of, so_every, so_refused}
use Rattle.x509_check.specs.CertificateWalk.{LendsWhole}
use Rattle.x509_der.specs.Element.{limit}
use Rattle.x509_check.proofs.lent.certificate.CertificateRef.from_der_with_validity.Goals as goal

pub returns-in-Ok-clause-found : goal.returns-in-Ok-clause-found
returns-in-Ok-clause-found g c =
    let within : length c.args.bytes.now ≤ limit = omega arith in
    let h = so_found (certificate {P = g.row.P.Denot} g.P.Profile.serial_check) (certificate_lawful g.P.Profile.serial_check) (LendsWhole {P = g.row.P.Denot}) c.args.bytes.now (Ok c.in-Ok.walked) within c.in-Ok.ensures in
    (refl, (h.0, h.1))

pub returns-in-Ok-clause-validity : goal.returns-in-Ok-clause-validity
returns-in-Ok-clause-validity g c = λ value spells.
    let dates = so_of (certificate {P = g.row.P.Denot} g.P.Profile.serial_check) (certificate_lawful g.P.Profile.serial_check) (LendsWhole {P = g.row.P.Denot}) c.args.bytes.now c.in-Ok.walked c.in-Ok.ensures value spells in
    same_dates _ _ (c.new.ensures.before ∙ dates.1) (c.new.ensures.after ∙ dates.2)

pub returns-in-Err-clause-refused : goal.returns-in-Err-clause-refused
returns-in-Err-clause-refused g c = λ within. so_refused (certificate {P = g.row.P.Denot} g.P.Profile.serial_check) (certificate_lawful g.P.Profile.serial_check) (LendsWhole {P = g.row.P.Denot}) c.args.bytes.now (Err c.in-Err.e) c.in-Err.ensures

pub returns-in-Err-clause-every : goal.returns-in-Err-clause-every
returns-in-Err-clause-every g c = so_every (certificate {P = g.row.P.Denot} g.P.Profile.serial_check) (certificate_lawful g.P.Profile.serial_check) (LendsWhole {P = g.row.P.Denot}) c.args.bytes.now (Err c.in-Err.e) c.in-Err.ensures

pub invariant_of-lent : goal.invariant_of-lent
invariant_of-lent g c =
    let within : length c.args.bytes.now ≤ limit = omega arith in
    let h = so_found (certificate {P = g.row.P.Denot} g.P.Profile.serial_check) (certificate_lawful g.P.Profile.serial_check) (LendsWhole {P = g.row.P.Denot}) c.args.bytes.now (Ok c.in-Ok.walked) within c.in-Ok.ensures in
    record { within = within; checked = is_read _ _ c.in-Ok.ensures.1; elements = elements_read g.P.Profile.serial_check c.args.bytes.now h.0 h.1 c.in-Ok.walked.slices h.2.0 }
