use Rattle.std.proofs.Common.{subst}
use Rattle.std.proofs.lemmas.Result.{IfOk-weaker}
use Rattle.x509_lint.proofs.CrlFindings.{are_findings}
use Rattle.x509_lint.specs.Values.{AreEntryFacts}
use Rattle.x509_lint.proofs.crl.lint_crl.Goals as goal

pub returns-clause-ok : goal.returns-clause-ok
returns-clause-ok c =
    let entries = c.in_ok-entries.entries in
    let asked = subst (λ revoked. AreEntryFacts revoked entries) c.entries.ensures c.in_ok-entries.ensures.ok in
    IfOk-weaker c.broken_rules.result _ _
    (λ findings found. are_findings c.args.crl.now c.in_ok-front.front entries c.in_ok-parts.parts findings.items c.in_ok-front.ensures.ok asked c.in_ok-parts.ensures.ok found)
    c.broken_rules.ensures.ok
