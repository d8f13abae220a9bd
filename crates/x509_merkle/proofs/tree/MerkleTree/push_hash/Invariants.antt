use Rattle.std.proofs.Common.{◌≡◌, ◌+◌, ◌*◌, ◌^◌, List, [], ◌∷◌, ◌++◌}
use Rattle.x509_merkle.specs.Merkle.{Octets, leaf_hash}
use Rattle.x509_merkle.specs.Holds.{Holds}
use Rattle.x509_merkle.proofs.Grown.{Pending}
use Rattle.x509_merkle.proofs.tree.MerkleTree.push_hash.Given as goal

abbrev pub invariant-loop-count : goal.invariant-loop-count
invariant-loop-count g l = record {
  counted : (l.count + 1) * 2 ^ l.level ≡ l.self.size + 1;
  pending : (leaves : List Octets) (entry : Octets) → Holds g.H.TreeHash.hash l.self leaves → l.leaf_hash ≡ leaf_hash g.H.TreeHash.hash entry
      → Pending g.H.TreeHash.hash l.self.hashes l.level l.count (leaves ++ entry ∷ []) l.hash;
}

abbrev pub decreases-loop-count : goal.decreases-loop-count
decreases-loop-count g l = l.count
