use Rattle.std.proofs.Common.{◌≡◌, ◌≤◌, ◌⊎◌, ap, inl, inr, length, refl, subst, sym}
use Rattle.std.proofs.lemmas.Result.{err_from_is_err_and}
use Rattle.x509_c_calls.proofs.log.part.reissued.Goals as goal
use Rattle.x509_c_calls.specs.Logs.{IsUncutReissued}
use Rattle.x509_c_calls.specs.declared.status.status.Status.{Status}
use Rattle.x509_c_calls.specs.declared.status.status.Status.TheVariants.{Refused}
use Rattle.x509_cert.specs.Certificate.{rfc5280_certificate}
use Rattle.x509_cert.specs.TbsCertificate.{rfc5280_tbs_certificate}
use Rattle.x509_der.specs.Element.{limit}
use Rattle.x509_der.specs.Form.{Spells}
use Rattle.x509_der.specs.declared.error.ErrorKind.{ErrorKind}
use Rattle.x509_der.specs.declared.error.ErrorKind.TheVariants.{Memory, Overlength}
use Rattle.x509_log.specs.Logged.{IsReissued}

-- out of memory, or octets that are too many
told : (P : Status → Type 0) {L : Type 0} (kind : ErrorKind) → (L → P (Refused Overlength)) → (kind ≡ Memory) ⊎ ((kind ≡ Overlength) × L)
    → (Refused kind ≡ Refused Memory) ⊎ P (Refused kind)
told P kind uncut (inl memory) = inl (ap Refused memory)
told P kind uncut (inr (overlength, long)) = inr (subst (λ k. P (Refused k)) (sym overlength) (uncut long))

pub returns-in_err-to_der-in-Ok-clause-refused : goal.returns-in_err-to_der-in-Ok-clause-refused
returns-in_err-to_der-in-Ok-clause-refused c =
    let p = err_from_is_err_and c.from_residual-in_err-to_der-in-Ok.result c.from_residual-in_err-to_der-in-Ok.ensures.1 in
    let (same, (certificate, read)) = c.in_ok-precertificate.ensures.found in
    let (same_above, (above, read_above)) = c.in_ok-signing.ensures.found in
    let is = c.in-Ok.ensures.found certificate above (subst (Spells rfc5280_certificate certificate) (sym same) read) (subst (Spells rfc5280_certificate above) (sym same_above) read_above) in
    rw (p.1, p.2) (told (IsUncutReissued _ c.args.precertificate.now c.args.signing.now) _
    (λ long. inr (inr (certificate, above, read, read_above, inr (_, refl, is, long)))) c.in_err-to_der-in-Ok.ensures.err)

pub returns-in_ok-to_der-in-Ok-clause-found : goal.returns-in_ok-to_der-in-Ok-clause-found
returns-in_ok-to_der-in-Ok-clause-found c =
    let (same, (certificate, read)) = c.in_ok-precertificate.ensures.found in
    let (same_above, (above, read_above)) = c.in_ok-signing.ensures.found in
    let is = c.in-Ok.ensures.found certificate above (subst (Spells rfc5280_certificate certificate) (sym same) read) (subst (Spells rfc5280_certificate above) (sym same_above) read_above) in
    let (octets, fits) = c.in_ok-to_der-in-Ok.ensures.ok in (
      record {
        certificate = certificate;
        read = read;
        above = above;
        read_above = read_above;
        is = subst (IsReissued rfc5280_tbs_certificate certificate.tbs_certificate above.tbs_certificate) (sym octets) is;
      },
      subst (λ o. length o ≤ limit) (sym octets) fits,
    )
