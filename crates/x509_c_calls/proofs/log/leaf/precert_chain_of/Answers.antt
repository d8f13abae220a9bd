use Rattle.std.proofs.Common.{length, ap}
use Rattle.x509_c_calls.proofs.LeafParts.{chain_at, submitted_at}
use Rattle.x509_c_calls.proofs.log.leaf.precert_chain_of.Goals as goal

pub returns : goal.returns
returns c = λ bytes spells.
    let len = ap length c.as_slice-len.ensures.value in
    record { precertificate = submitted_at bytes _ spells _ len; chain = chain_at bytes _ spells _ _ len c.tls_len.ensures.exact }
