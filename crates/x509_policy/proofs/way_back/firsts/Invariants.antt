-- Where the way back stands, what is found so far and what is found from there on are all.
use Rattle.std.proofs.Common.{◌≤◌, ◌∷◌, ◌++◌, List, length, take}
use Rattle.x509_policy.specs.Follows.{last_of, levels_of}
use Rattle.x509_policy.specs.Levels.{GoesBack}
use Rattle.x509_policy.specs.Values.{Policy}
use Rattle.x509_policy.specs.Views.{octets_of}
use Rattle.x509_policy.proofs.way_back.firsts.Given as goal

abbrev pub invariant-loop-left : goal.invariant-loop-left
invariant-loop-left l = (l.left ≤ length l.levels)
    × ((more : List Policy) → GoesBack (levels_of (take l.left l.levels)) l.reached more → GoesBack (last_of l.next ∷ levels_of l.levels) l.next.policies (octets_of l.found.items ++ more))

abbrev pub decreases-loop-left : goal.decreases-loop-left
decreases-loop-left l = l.left
