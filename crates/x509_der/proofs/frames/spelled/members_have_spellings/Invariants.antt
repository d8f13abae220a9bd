use Rattle.std.proofs.Common.{◌≤◌, drop, length}
use Rattle.x509_der.specs.List.{all_good}
use Rattle.x509_der.proofs.frames.spelled.members_have_spellings.Given as goal

-- the members from i on have spellings
abbrev pub invariant-loop-i : goal.invariant-loop-i
invariant-loop-i g l = record {
  spelled : all_good (λ x. g.T.Spelled.premise x → g.T.Grammar.form.good x) (drop l.i l.items);
  within : l.i ≤ length l.items;
}

abbrev pub decreases-loop-i : goal.decreases-loop-i
decreases-loop-i g l = l.i
