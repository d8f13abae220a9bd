use Rattle.std.proofs.Common.{◌*◌, ◌^◌, ◌≤◌, List}
use Rattle.x509_merkle.specs.Merkle.{Octets}
use Rattle.x509_merkle.specs.Holds.{Holds}
use Rattle.x509_merkle.proofs.Grown.{Rooted}
use Rattle.x509_merkle.proofs.tree.MerkleTree.root.Given as goal

abbrev pub invariant-loop-count : goal.invariant-loop-count
invariant-loop-count g l = record {
  counted : l.count * 2 ^ l.level ≤ l.self.size;
  rooted : (leaves : List Octets) → Holds g.H.TreeHash.hash l.self leaves → Rooted g.H.TreeHash.hash l.self.hashes l.level l.count leaves l.root;
}

abbrev pub decreases-loop-count : goal.decreases-loop-count
decreases-loop-count g l = l.count
