use Rattle.std.proofs.Common.{List, ℕ, subst}
use Rattle.x509_c_calls.proofs.MerkleHashes.{whole_hash}
use Rattle.x509_c_calls.proofs.log.leaf.tree_head_data.Goals as goal
use Rattle.x509_log.specs.TreeHead.{tree_head_input}
use Rattle.x509_sct.specs.Form.{Spells}
use Rattle.x509_sct.specs.declared.entry.SignatureType.TheVariants.{TreeHash}
use Rattle.x509_sct.specs.declared.timestamp.Version.TheVariants.{V1}

pub returns-in-Ok-clause-found : goal.returns-in-Ok-clause-found
returns-in-Ok-clause-found c =
    let it = c.in-Some-default-empty in
    let same = whole_hash c.args.root_hash.now it.hash.now it.field-0-1.now it.ensures.cases.0 it.len_below it.ensures.cases.2 in
    subst (λ (hash : List ℕ). Spells tree_head_input (V1, (TreeHash, (c.args.timestamp, (c.args.tree_size, hash)))) c.in-Ok.octets.items) same.0 c.in-Ok.ensures.ok
