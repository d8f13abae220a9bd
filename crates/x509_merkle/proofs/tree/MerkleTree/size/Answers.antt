use Rattle.std.proofs.Common.{arith}
use Rattle.x509_merkle.specs.Holds.{Holds}
use Rattle.x509_merkle.proofs.Grown.{Stands-length}
use Rattle.x509_merkle.proofs.tree.MerkleTree.size.Goals as goal

pub returns : goal.returns
unfolding Holds
returns c = λ hash leaves holds. omega (arith, Stands-length hash _ _ _ _ holds)
