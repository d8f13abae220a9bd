use Rattle.std.proofs.Common.{◌∙◌, ap, refl}
use Rattle.std.specs.List.{list_any}
use Rattle.x509_ext.specs.declared.pkix.name.general_name.GeneralName.TheVariants.{DirectoryName}
use Rattle.x509_constraints.specs.Marks.{name_marks}
use Rattle.x509_constraints.specs.Stacks.{in_all, in_some}
use Rattle.x509_constraints.proofs.Allowed.{key_answers, marked_refused}
use Rattle.x509_constraints.proofs.Marked.{any_alike}
use Rattle.x509_constraints.proofs.sets.ConstraintSets.allows_subject.Goals as goal

pub returns-in-Some : goal.returns-in-Some
returns-in-Some c sets applied = c.in-Some.ensures sets (DirectoryName c.args.subject.now) applied refl refl

pub returns-then-branch : goal.returns-then-branch
returns-then-branch c sets applied =
    marked_refused (DirectoryName c.args.subject.now) sets c.in_ok-has_marks_in_name-in-None.field-0
    (c.in-None.ensures sets (DirectoryName c.args.subject.now) applied refl refl)
    (c.in_ok-has_marks_in_name-in-None.ensures ∙ (ap (λ s. list_any (in_some s) (name_marks 0 c.args.subject.now)) c.as_slice.ensures.value
    ∙ any_alike _ _ (name_marks 0 c.args.subject.now) applied.marks)) c.if-branch.true

pub returns-in_ok-key-in-None : goal.returns-in_ok-key-in-None
returns-in_ok-key-in-None c sets applied =
    key_answers (DirectoryName c.args.subject.now) sets c.in_ok-key-in-None.key c.allows_key.result
    (in_all c.args.self.now.permitted.items c.in_ok-key-in-None.key)
    (in_some c.args.self.now.excluded.items c.in_ok-key-in-None.key) c.in_ok-has_marks_in_name-in-None.field-0
    (c.in-None.ensures sets (DirectoryName c.args.subject.now) applied refl refl)
    c.in_ok-key-in-None.ensures
    (applied.permitted c.in_ok-key-in-None.key) (applied.excluded c.in_ok-key-in-None.key)
    (c.in_ok-has_marks_in_name-in-None.ensures ∙ (ap (λ s. list_any (in_some s) (name_marks 0 c.args.subject.now)) c.as_slice.ensures.value
    ∙ any_alike _ _ (name_marks 0 c.args.subject.now) applied.marks)) c.if-branch.false c.allows_key.ensures
