use Rattle.x509_c_calls.proofs.MerkleHashes.{whole_hash}
use Rattle.x509_c_calls.proofs.log.tree.hash_of.Goals as goal

pub returns-in-Some-default-empty : goal.returns-in-Some-default-empty
returns-in-Some-default-empty c =
    let cases = c.in-Some-default-empty.ensures.cases in
    whole_hash c.args.octets.now c.in-Some-default-empty.hash.now c.in-Some-default-empty.field-0-1.now cases.0 c.in-Some-default-empty.len_below cases.2
