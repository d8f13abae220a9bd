use Rattle.std.proofs.Common.{◌∙◌}
use Rattle.std.proofs.lemmas.Result.{IfOk-weaker}
use Rattle.x509_constraints.proofs.Asked.{others_none, others_some}
use Rattle.x509_constraints.proofs.sets.ConstraintSets.allows_others.Goals as goal

pub returns-in-Some : goal.returns-in-Some
returns-in-Some c sets applied =
    IfOk-weaker _ _ _ (λ b answers. others_some sets c.args.subject.now _ _ c.as_slice.result.now b c.in-Some.is (c.as_slice.ensures ∙ c.as_ref.ensures) answers)
    (c.allows_each.ensures sets applied)

pub returns-in-None : goal.returns-in-None
returns-in-None c sets applied =
    IfOk-weaker _ _ _ (λ b answers. others_none sets c.args.subject.now c.as_slice-in-None.result.now _ b c.in-None.is (c.as_slice-in-None.ensures ∙ c.as_ref-in-None.ensures) answers)
    (c.allows_emails.ensures sets applied)
