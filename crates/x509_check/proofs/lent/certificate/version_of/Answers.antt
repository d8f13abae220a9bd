use Rattle.std.proofs.Common.{sym, ap, ◌∙◌}
use Rattle.std.specs.Option.{option_copied}
use Rattle.x509_check.proofs.LentCertificates.{second_is, third_is}
use Rattle.x509_check.proofs.lent.certificate.version_of.Goals as goal

pub returns-then-eq : goal.returns-then-eq
returns-then-eq c = λ v e. second_is c.in-Some.lent.now v (rw c.as_slice.ensures at (sym c.eq.ensures ∙ c.if-eq.true)) (sym (ap option_copied c.in-Some.is) ∙ e)

pub returns-else-eq : goal.returns-else-eq
returns-else-eq c = λ v e. third_is c.in-Some.lent.now v (rw c.as_slice.ensures at (sym c.eq.ensures ∙ c.if-eq.false)) (sym (ap option_copied c.in-Some.is) ∙ e)
