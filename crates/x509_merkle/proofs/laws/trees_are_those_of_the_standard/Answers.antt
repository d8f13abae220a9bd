use Rattle.x509_merkle.proofs.Equations.{tree_hash_is}
use Rattle.x509_merkle.proofs.laws.trees_are_those_of_the_standard.Goals as goal

pub returns-clause-mth : goal.returns-clause-mth
returns-clause-mth c = tree_hash_is
