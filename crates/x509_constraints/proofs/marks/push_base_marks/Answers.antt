use Rattle.std.proofs.Common.{◌++◌, ◌∙◌, ap, arith}
use Rattle.std.specs.List.{flat_map}
use Rattle.x509_constraints.specs.Marks.{marks_against}
use Rattle.x509_constraints.proofs.Marked.{base_more}
use Rattle.x509_constraints.proofs.marks.push_base_marks.Goals as goal

pub loop-i-preserved : goal.loop-i-preserved
loop-i-preserved c =
    base_more c.args.base.now c.loop-i.i c.index-base-i.result c.args.keys.now.items c.loop-i.keys.items _ (omega (arith, c.loop-i-test.true))
    c.index-base-i.is c.loop-i.invariant
    (c.in_ok-push_rdn_marks.ensures ∙ ap (λ l. c.loop-i.keys.items ++ flat_map (λ b. marks_against c.loop-i.i b) l) c.as_slice.ensures.members)
