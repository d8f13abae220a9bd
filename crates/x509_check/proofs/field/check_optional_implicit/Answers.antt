use Rattle.std.proofs.Common.{◌∙◌}
use Rattle.x509_check.proofs.Checks.{optional_here, optional_none_left, optional_other, among_one, not_among_one}
use Rattle.x509_check.proofs.field.check_optional_implicit.Goals as goal

pub returns-in-len1-up-clause-exact : goal.returns-in-len1-up-clause-exact
returns-in-len1-up-clause-exact g c = optional_here _ _ c.check_implicit.result _ _ c.in-len1-up.len_at_least (among_one _ _ (c.if-octet-implicit_octet.true ∙ c.implicit_octet.ensures)) c.check_implicit.ensures.exact

pub returns-in_default-clause-exact : goal.returns-in_default-clause-exact
returns-in_default-clause-exact g c = optional_none_left _ _ _ c.in_default.len_below

pub returns-in_default-2-clause-exact : goal.returns-in_default-2-clause-exact
returns-in_default-2-clause-exact g c = optional_other _ _ _ (not_among_one _ _ (rw c.implicit_octet.ensures at c.if-octet-implicit_octet.false))
