use Rattle.std.proofs.Common.{inl, inr, refl}
use Rattle.x509_lint.proofs.report.lint_bytes.Goals as goal

pub returns-in-Some-clause-ok : goal.returns-in-Some-clause-ok
returns-in-Some-clause-ok c = inl (c.in-Some.report, refl, rw c.in-Some.is at c.in_ok-report.ensures.ok)

pub returns-in-Some-2-clause-ok : goal.returns-in-Some-2-clause-ok
returns-in-Some-2-clause-ok c =
    inr (rw c.in_default.is at c.in_ok-report.ensures.ok, inl (c.in-Some-2.report, refl, rw c.in-Some-2.is at c.in_ok-report-2.ensures.ok))

pub returns-in-Some-3-clause-ok : goal.returns-in-Some-3-clause-ok
returns-in-Some-3-clause-ok c =
    inr (rw c.in_default.is at c.in_ok-report.ensures.ok, inr (rw c.in_default-2.is at c.in_ok-report-2.ensures.ok, inl (c.in-Some-3.report, refl, rw c.in-Some-3.is at c.in_ok-report-3.ensures.ok)))
