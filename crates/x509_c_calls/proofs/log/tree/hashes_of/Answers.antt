use Rattle.std.proofs.Common.{sym, ◌∙◌}
use Rattle.x509_c_calls.proofs.MerkleHashes.{none_are, one_read}
use Rattle.x509_c_calls.proofs.log.tree.hashes_of.Goals as goal

pub loop-hash-preserved : goal.loop-hash-preserved
loop-hash-preserved c =
    rw c.in_ok-push.ensures.items
    (one_read c.args.octets.now c.loop-hash.rest.now c.in-Some.hash.now c.in-Some.behind.now c.loop-hash.hashes.items c.loop-hash.invariant
    c.in-Some.ensures.cases.0 c.in-Some.ensures.cases.1 c.in-Some.ensures.cases.2)

pub returns-then-not-is_empty : goal.returns-then-not-is_empty
returns-then-not-is_empty c = λ hashes are.
    none_are c.args.octets.now c.loop-hash.rest.now c.loop-hash.hashes.items hashes c.loop-hash.invariant c.in_default.ensures.cases
    (sym c.is_empty.ensures ∙ c.if-not-is_empty.true) are
