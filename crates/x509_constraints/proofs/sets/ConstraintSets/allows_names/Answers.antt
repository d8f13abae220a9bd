use Rattle.std.proofs.Common.{◌≡◌, ◌∙◌, false, sym, true}
use Rattle.std.proofs.lemmas.Result.{IfOk-weaker}
use Rattle.std.specs.Option.{option_copied}
use Rattle.x509_constraints.specs.Constraints.{IsAllowed, others_asked, subject_asked}
use Rattle.x509_constraints.proofs.Asked.{names_refused, names_rest}
use Rattle.x509_constraints.proofs.sets.ConstraintSets.allows_names.Goals as goal
use Rattle.x509_constraints.proofs.sets.ConstraintSets.allows_names.Goals.{then-not-self-via-then-not-self, then-not-self-via-else-not-self+in_ok-allows_some_subject+then-not-branch}

pub returns-then-not-self-clause-same : goal.returns-then-not-self-clause-same
returns-then-not-self-clause-same c sets applied =
    elim c.then-not-self.branch [
      | then-not-self-via-then-not-self w ↦ absurd (let e : true ≡ false = sym applied.whole ∙ w.if-not-self.true in cc)
      | then-not-self-via-else-not-self+in_ok-allows_some_subject+then-not-branch w ↦
          names_refused (λ name. IsAllowed sets name) (subject_asked c.args.subject.now) (others_asked c.args.subject.now (option_copied c.args.alternative))
          w.in_ok-allows_some_subject.field-0 (w.in_ok-allows_some_subject.ensures sets applied) w.if-not-branch.true
    ]

pub returns-clause-same : goal.returns-clause-same
returns-clause-same c sets applied =
    IfOk-weaker _ _ _
    (λ r answers. names_rest (λ name. IsAllowed sets name) (subject_asked c.args.subject.now)
    (others_asked c.args.subject.now (option_copied c.args.alternative)) c.in_ok-allows_some_subject.field-0 r
    (c.in_ok-allows_some_subject.ensures sets applied) c.if-not-branch.false answers)
    (c.allows_others.ensures sets applied)
