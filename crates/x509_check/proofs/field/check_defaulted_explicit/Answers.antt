use Rattle.x509_check.proofs.Checks.{default_here, default_none_left, default_other, among_one, not_among_one}
use Rattle.x509_check.proofs.field.check_defaulted_explicit.Goals as goal

pub returns-in-len1-up-clause-exact : goal.returns-in-len1-up-clause-exact
returns-in-len1-up-clause-exact g c = default_here _ _ _ c.check_other_explicit.result _ _ c.in-len1-up.len_at_least (among_one _ _ c.if-octet-n.true) c.check_other_explicit.ensures.exact

pub returns-in_default-clause-exact : goal.returns-in_default-clause-exact
returns-in_default-clause-exact g c = default_none_left _ _ _ _ c.in_default.len_below

pub returns-in_default-2-clause-exact : goal.returns-in_default-2-clause-exact
returns-in_default-2-clause-exact g c = default_other _ _ _ _ (not_among_one _ _ c.if-octet-n.false)
