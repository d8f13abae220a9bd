use Rattle.std.proofs.Common.{refl}
use Rattle.x509_merkle.specs.Trees.{none}
use Rattle.x509_merkle.specs.Holds.{Holds}
use Rattle.x509_merkle.proofs.tree.MerkleTree.new.Goals as goal

pub returns : goal.returns
unfolding Holds
returns c = λ hash. none refl refl
