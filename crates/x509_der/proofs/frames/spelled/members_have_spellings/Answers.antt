use Rattle.std.proofs.Common.{arith}
use Rattle.x509_der.specs.SpelledLists.{all_good-end, all_good-member, all_good-whole}
use Rattle.x509_der.proofs.frames.spelled.members_have_spellings.Goals as goal

pub loop-i-init : goal.loop-i-init
loop-i-init g c = record { spelled = all_good-end _ c.args.items.now; within = omega arith }

pub loop-i-preserved : goal.loop-i-preserved
loop-i-preserved g c = record {
  spelled = all_good-member _ c.args.items.now c.loop-i.i c.index-items-i.result c.loop-i-test.true c.loop-i.invariant.within c.index-items-i.is c.loop-i.invariant.spelled c.has_spelling.ensures;
  within = omega arith;
}

pub returns : goal.returns
returns g c = all_good-whole g.T.Spelled.premise g.T.Grammar.form.good c.args.items.now c.loop-i.i c.loop-i-test.false c.loop-i.invariant.spelled
