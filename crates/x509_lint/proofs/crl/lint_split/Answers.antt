use Rattle.std.proofs.lemmas.Result.{IfOk-weaker}
use Rattle.x509_cert.specs.Revoked.{entries}
use Rattle.x509_lint.proofs.CrlFindings.{are_findings}
use Rattle.x509_lint.proofs.crl.lint_split.Goals as goal

pub returns-clause-ok : goal.returns-clause-ok
returns-clause-ok c =
    let facts = c.in_ok-entries.entries in
    IfOk-weaker c.broken_rules.result _ _
    (λ findings found list split.
    are_findings list c.args.front.now facts c.in_ok-parts.parts findings.items split.0 (c.in_ok-entries.ensures.ok (entries list.tbs_cert_list.revoked_certificates) split.1) c.in_ok-parts.ensures.ok found)
    c.broken_rules.ensures.ok
