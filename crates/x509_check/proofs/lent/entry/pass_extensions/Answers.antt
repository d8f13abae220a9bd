use Rattle.std.proofs.Common.{false, refl, arith}
use Rattle.std.proofs.lemmas.Bool.Decides.{nat_tests}
use Rattle.x509_check.proofs.Checks.{among_one, not_among_one}
use Rattle.x509_check.proofs.LentEntries.{so_here, so_none_left, so_other}
use Rattle.x509_check.proofs.PassedExtensions.{MarkBy, MarkAmong}
use Rattle.x509_check.proofs.lent.entry.pass_extensions.Goals as goal

pub returns-in-len1-up : goal.returns-in-len1-up
returns-in-len1-up c = so_here MarkBy MarkAmong _ _ (λ list is_marked h. h) c.pass_list.result _ _ c.in-len1-up.len_at_least (among_one _ _ c.if-octet-eq48.true) c.pass_list.ensures

pub returns-in_default : goal.returns-in_default
returns-in_default c = so_none_left MarkBy MarkAmong _ _ false refl _ (grind (arith, nat_tests))

pub returns-in_default-2 : goal.returns-in_default-2
returns-in_default-2 c = so_other MarkBy MarkAmong _ _ false refl _ (not_among_one _ _ c.if-octet-eq48.false)
