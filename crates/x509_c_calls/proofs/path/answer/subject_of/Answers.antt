use Rattle.std.proofs.Common.{map, take, length, ◌-◌, refl}
use Rattle.x509_c_calls.proofs.LentCertificates.{with_last}
use Rattle.x509_c_calls.proofs.path.answer.subject_of.Goals as goal

pub returns-clause-subject : goal.returns-clause-subject
returns-clause-subject c = λ some.
    let said = c.certificate_of.ensures in (
      map (λ certificate. certificate.bytes.now) (take (length c.args.path.now - 1) c.args.path.now),
      c.last-item.result.bytes.now,
      said.0,
      with_last (λ certificate. certificate.bytes.now) c.args.path.now c.last-item.result c.in-len1-up.len_at_least c.last-item.is,
      said.1,
      record { no_place = refl; no_reason = refl; name = said.2.subject; key = said.2.subject_public_key_info },
    )
