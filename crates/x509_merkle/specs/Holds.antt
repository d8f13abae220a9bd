-- The leaves of a tree.
use Rattle.std.specs.Prelude.{List}
use Rattle.x509_merkle.specs.Merkle.{Octets}
use Rattle.x509_merkle.specs.Trees.{Stands}
use Rattle.x509_merkle.specs.declared.tree.MerkleTree.{MerkleTree}

-- the tree has these leaves
unfoldable pub Holds : (Octets → Octets) → MerkleTree → List Octets → Type 0
Holds hash tree leaves = Stands hash tree.hashes 0 tree.size leaves
