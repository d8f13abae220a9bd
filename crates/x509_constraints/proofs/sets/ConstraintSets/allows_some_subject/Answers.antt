use Rattle.std.proofs.lemmas.Result.{IfOk-weaker}
use Rattle.x509_constraints.proofs.Asked.{subject_answers}
use Rattle.x509_constraints.proofs.sets.ConstraintSets.allows_some_subject.Goals as goal

pub returns : goal.returns
returns c sets applied =
    IfOk-weaker _ _ _ (λ b answers. subject_answers sets c.args.subject.now c.is_empty.result b c.is_empty.ensures c.if-is_empty.false answers)
    (c.allows_subject.ensures sets applied)
