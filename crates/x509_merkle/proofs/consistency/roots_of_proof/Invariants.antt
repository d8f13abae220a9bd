use Rattle.std.proofs.Common.{Some, true}
use Rattle.x509_merkle.specs.Merkle.{roots_at}
use Rattle.x509_merkle.specs.Roots.{roots_of}
use Rattle.x509_merkle.proofs.Climbs.{Ends}
use Rattle.x509_merkle.proofs.BothSteps.{waiting, at, both_step}
use Rattle.x509_merkle.proofs.consistency.roots_of_proof.Given as goal

abbrev pub invariant-loop-node : goal.invariant-loop-node
invariant-loop-node g l =
    Ends (both_step g.H.TreeHash.hash l.old_root l.proof true) l.node l.last waiting
    (at (roots_at g.H.TreeHash.hash l.old_root l.new l.old l.new true l.proof))

abbrev pub decreases-loop-node : goal.decreases-loop-node
decreases-loop-node g l = l.node

abbrev pub invariant-loop-last : goal.invariant-loop-last
invariant-loop-last g l =
    Ends (both_step g.H.TreeHash.hash l.old_root l.proof true) l.node l.last (at (Some (roots_of l.roots, l.rest)))
    (at (roots_at g.H.TreeHash.hash l.old_root l.new l.old l.new true l.proof))

abbrev pub decreases-loop-last : goal.decreases-loop-last
decreases-loop-last g l = l.last
