use Rattle.std.proofs.Common.{◌≡◌, IfOk, subst}
use Rattle.x509_lint.specs.Anchor.{unsigned}
use Rattle.x509_lint.specs.Rules.{AreFindings}
use Rattle.x509_lint.proofs.anchor.lint_signed.Goals as goal

pub returns-clause-ok : goal.returns-clause-ok
returns-clause-ok c =
    let same : c.from_parts-certificate.result ≡ unsigned c.args.signed.now =
    rw (c.in_ok-part.ensures.ok, c.in_ok-algorithm.ensures.ok, c.signature.ensures, c.in_ok-bits.ensures.ok) at c.from_parts-certificate.ensures in
    subst (λ certificate. IfOk c.lint_certificate.result (λ findings. AreFindings certificate findings.items)) same c.lint_certificate.ensures.ok
