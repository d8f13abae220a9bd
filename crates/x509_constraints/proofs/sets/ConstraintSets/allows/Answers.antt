use Rattle.std.proofs.Common.{◌∙◌, ap, sym}
use Rattle.std.specs.List.{list_any}
use Rattle.x509_constraints.specs.Marks.{marks_in}
use Rattle.x509_constraints.specs.Stacks.{in_all, in_some}
use Rattle.x509_constraints.proofs.Allowed.{key_answers, marked_refused}
use Rattle.x509_constraints.proofs.Marked.{any_alike}
use Rattle.x509_constraints.proofs.sets.ConstraintSets.allows.Goals as goal

pub returns-in-Some-clause-same : goal.returns-in-Some-clause-same
returns-in-Some-clause-same c sets applied = c.in-Some.ensures sets c.args.name.now applied (sym c.form_of.ensures.value) (sym c.is_comparable.ensures)

pub returns-then-branch-clause-same : goal.returns-then-branch-clause-same
returns-then-branch-clause-same c sets applied =
    marked_refused c.args.name.now sets c.in_ok-has_marks-in-None.field-0
    (c.in-None.ensures sets c.args.name.now applied (sym c.form_of.ensures.value) (sym c.is_comparable.ensures))
    (c.in_ok-has_marks-in-None.ensures ∙ (ap (λ s. list_any (in_some s) (marks_in c.args.name.now)) c.as_slice.ensures.value
    ∙ any_alike _ _ (marks_in c.args.name.now) applied.marks))
    c.if-branch.true

pub returns-in_ok-key-in-None-clause-same : goal.returns-in_ok-key-in-None-clause-same
returns-in_ok-key-in-None-clause-same c sets applied =
    key_answers c.args.name.now sets c.in_ok-key-in-None.key c.allows_key.result (in_all c.args.self.now.permitted.items c.in_ok-key-in-None.key)
    (in_some c.args.self.now.excluded.items c.in_ok-key-in-None.key) c.in_ok-has_marks-in-None.field-0
    (c.in-None.ensures sets c.args.name.now applied (sym c.form_of.ensures.value) (sym c.is_comparable.ensures)) c.in_ok-key-in-None.ensures
    (applied.permitted c.in_ok-key-in-None.key) (applied.excluded c.in_ok-key-in-None.key)
    (c.in_ok-has_marks-in-None.ensures ∙ (ap (λ s. list_any (in_some s) (marks_in c.args.name.now)) c.as_slice.ensures.value
    ∙ any_alike _ _ (marks_in c.args.name.now) applied.marks))
    c.if-branch.false c.allows_key.ensures
