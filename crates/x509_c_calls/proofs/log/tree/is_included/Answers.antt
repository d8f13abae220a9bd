use Rattle.x509_c_calls.proofs.MerkleHashes.{includes, some_of}
use Rattle.x509_c_calls.proofs.log.tree.is_included.Goals as goal

pub returns-in-Some-Some : goal.returns-in-Some-Some
returns-in-Some-Some c =
    let first = c.in-Some-Some.ensures in
    let second = c.in-Some-Some.ensures' in
    includes c.args.leaf.now c.args.root.now c.args.index c.args.size c.args.path.now c.in-Some-Some.leaf.now c.in-Some-Some.root.now c.in-Some.hashes.items c.as_slice.result.now
    c.verify_inclusion.result first.0 first.1 second.0 second.1 c.as_slice.ensures.value (some_of _ _ _ _ c.in-Some.is c.in_ok-hashes.ensures)
    c.verify_inclusion.ensures
