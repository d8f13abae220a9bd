use Rattle.std.proofs.Common.{length}
use Rattle.x509_c_calls.proofs.MerkleHashes.{IsRead}
use Rattle.x509_c_calls.proofs.log.tree.hashes_of.Given as goal

abbrev pub invariant-loop-hash : goal.invariant-loop-hash
invariant-loop-hash l = IsRead l.octets l.hashes.items l.rest

abbrev pub decreases-loop-hash : goal.decreases-loop-hash
decreases-loop-hash l = length l.rest
