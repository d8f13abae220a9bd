use Rattle.std.proofs.Common.{inl, inr, sym, ◌∙◌}
use Rattle.x509_cert.proofs.Issuing.{other_issuer, passes, same_issuer}
use Rattle.x509_cert.specs.Revoked.{entries}
use Rattle.x509_cert.proofs.crl.certificate_list.CertificateList.find_issued.Goals as goal
use Rattle.x509_cert.proofs.crl.certificate_list.CertificateList.find_issued.Goals.{in-Some-2, in_default-2, else-is_issuer-via-then-is_issuer+else-eq, else-is_issuer-via-else-is_issuer}

pub loop-first-preserved : goal.loop-first-preserved
loop-first-preserved g c =
    let (preceding, same, whole) = c.loop-first.invariant in
    passes c.args.self.now.tbs_cert_list.issuer c.args.issuer.now preceding c.in-Some.first.now c.match-branch-2.is_issuer
    c.args.serial_number.now c.loop-first.rest.now c.in-Some.others.now (entries c.args.self.now.tbs_cert_list.revoked_certificates) c.in-Some.ensures.cases.0 whole
    (elim c.match-branch-2.branch [
      | in-Some-2 w ↦ other_issuer c.args.self.now.tbs_cert_list.issuer c.args.issuer.now preceding c.in-Some.first.now c.match-branch-2.is_issuer
          c.in_ok-found.field-0 w.in-Some-2.field-0-0 w.in-Some-2.found c.in_ok-found.ensures w.in-Some-2.is (w.is_issuer-is ∙ w.has_name-is_issuer.ensures)
      | in_default-2 w ↦ same_issuer c.args.self.now.tbs_cert_list.issuer c.args.issuer.now preceding c.in-Some.first.now c.match-branch-2.is_issuer
          c.in_ok-found.field-0 c.in_ok-found.ensures w.in_default-2.is (w.is_issuer-is ∙ same)
    ])
    (elim c.else-is_issuer.branch [
      | else-is_issuer-via-then-is_issuer+else-eq w ↦ inr (sym w.eq.ensures ∙ w.if-eq.false)
      | else-is_issuer-via-else-is_issuer w ↦ inl w.if-is_issuer.false
    ])
