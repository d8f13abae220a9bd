use Rattle.std.proofs.Common.{false, slice_index_or}
use Rattle.x509_constraints.specs.Marks.{rejects}
use Rattle.x509_constraints.specs.Stacks.{in_all, in_some}
use Rattle.x509_constraints.specs.SubtreeKeys.{constrains, excludes, excludes_form, is_unusable_for, permits}
use Rattle.x509_constraints.proofs.Allowed.{all_more, any_more}
use Rattle.x509_constraints.proofs.sets.ConstraintSets.add.Goals as goal

pub returns-clause-applied : goal.returns-clause-applied
returns-clause-applied c sets applied =
    let permitted_more = rw c.listed.ensures at c.in_ok-add_permitted.ensures in
    let excluded_more = rw c.listed-2.ensures at c.in_ok-add_excluded.ensures in
    let marks_more = rw c.listed-3.ensures at c.in_ok-add_marks.ensures in
    record {
      whole = applied.whole;
      permitted = λ key. all_more (permits key) sets c.args.constraints.now (in_all c.args.self.now.permitted.items key) _
          (applied.permitted key) (permitted_more key);
      excluded = λ key. any_more (excludes key) sets c.args.constraints.now (in_some c.args.self.now.excluded.items key) _
          (applied.excluded key) (excluded_more key);
      marks = λ key. any_more (rejects key) sets c.args.constraints.now (in_some c.args.self.now.marks.items key) _
          (applied.marks key) (marks_more key);
      constrained = λ form few. any_more (constrains form) sets c.args.constraints.now (slice_index_or c.args.self.now.constrained form false) _
          (applied.constrained form few) (c.noted_with-self.ensures form few);
      excluding = λ form few. any_more (excludes_form form) sets c.args.constraints.now (slice_index_or c.args.self.now.excluding form false) _
          (applied.excluding form few) (c.noted_with-self-2.ensures form few);
      unusable = λ form few. any_more (is_unusable_for form) sets c.args.constraints.now (slice_index_or c.args.self.now.unusable form false) _
          (applied.unusable form few) (c.noted_with-self-3.ensures form few);
    }
