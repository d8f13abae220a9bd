use Rattle.x509_c_calls.proofs.MerkleHashes.{agrees, some_of}
use Rattle.x509_c_calls.proofs.log.tree.is_consistent.Goals as goal

pub returns-in-Some-Some : goal.returns-in-Some-Some
returns-in-Some-Some c =
    let first = c.in-Some-Some.ensures in
    let second = c.in-Some-Some.ensures' in
    agrees c.args.old c.args.new c.args.old_root.now c.args.new_root.now c.args.proof.now c.in-Some-Some.old_root.now c.in-Some-Some.new_root.now c.in-Some.hashes.items c.as_slice.result.now
    c.verify_consistency.result first.0 first.1 second.0 second.1 c.as_slice.ensures.value (some_of _ _ _ _ c.in-Some.is c.in_ok-hashes.ensures)
    c.verify_consistency.ensures
