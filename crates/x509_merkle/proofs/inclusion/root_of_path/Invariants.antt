use Rattle.std.proofs.Common.{Some}
use Rattle.x509_merkle.specs.Merkle.{root_at}
use Rattle.x509_merkle.proofs.Climbs.{Ends}
use Rattle.x509_merkle.proofs.RootSteps.{hash_step}
use Rattle.x509_merkle.proofs.inclusion.root_of_path.Given as goal

abbrev pub invariant-loop-last : goal.invariant-loop-last
invariant-loop-last g l =
    Ends (hash_step g.H.TreeHash.hash) l.node l.last (Some (l.hash, l.rest)) (root_at g.H.TreeHash.hash l.size l.leaf_hash l.index l.size l.path)

abbrev pub decreases-loop-last : goal.decreases-loop-last
decreases-loop-last g l = l.last
