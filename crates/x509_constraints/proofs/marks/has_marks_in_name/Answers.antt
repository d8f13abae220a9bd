use Rattle.std.proofs.Common.{◌∙◌, ap, arith, length, get_or}
use Rattle.std.specs.List.{list_any}
use Rattle.x509_constraints.specs.Marks.{mark_at}
use Rattle.x509_constraints.specs.Stacks.{in_some}
use Rattle.x509_constraints.proofs.Marked.{marks_found, no_more_marks, no_sets, none_of}
use Rattle.x509_constraints.proofs.marks.has_marks_in_name.Goals as goal

pub returns-then-is_empty : goal.returns-then-is_empty
returns-then-is_empty c = no_sets c.args.sets.now _ (none_of c.args.sets.now c.if-is_empty.ensures)

pub returns-then-branch : goal.returns-then-branch
returns-then-branch c =
    let are = c.as_slice-rdns.ensures ∙ c.as_ref.ensures in
    marks_found (in_some c.args.sets.now) c.args.name.now c.loop-i.i c.index-rdns-i.result c.in_ok-has_marked.field-0
    (omega (arith, ap length are, c.loop-i-test.true))
    (c.index-rdns-i.is ∙ ap (λ l. get_or l c.loop-i.i c.index-rdns-i.result) are)
    (c.in_ok-has_marked.ensures ∙ ap (λ l. list_any (λ a. in_some c.args.sets.now (mark_at c.loop-i.i a)) l) c.as_slice.ensures.members) c.if-branch.true

pub loop-i-preserved : goal.loop-i-preserved
loop-i-preserved c =
    let are = c.as_slice-rdns.ensures ∙ c.as_ref.ensures in
    no_more_marks (in_some c.args.sets.now) c.args.name.now c.loop-i.i c.index-rdns-i.result c.in_ok-has_marked.field-0
    (omega (arith, ap length are, c.loop-i-test.true))
    (c.index-rdns-i.is ∙ ap (λ l. get_or l c.loop-i.i c.index-rdns-i.result) are) c.loop-i.invariant
    (c.in_ok-has_marked.ensures ∙ ap (λ l. list_any (λ a. in_some c.args.sets.now (mark_at c.loop-i.i a)) l) c.as_slice.ensures.members) c.if-branch.false
