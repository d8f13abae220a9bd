use Rattle.std.proofs.Common.{[], ◌++◌, sym}
use Rattle.x509_c_calls.proofs.ChainWalks.{from_the_begin, is_chain, same_chain, whole_chain}
use Rattle.x509_c_calls.proofs.Walks.{no_octets, some_octets}
use Rattle.x509_c_calls.proofs.log.chain.left.Goals as goal

pub returns-in_default : goal.returns-in_default
returns-in_default c = λ left l. c.in_default.ensures (l.passed ++ left) [] l.short (is_chain _ _ _ l)

pub returns-then-not-is_empty : goal.returns-then-not-is_empty
returns-then-not-is_empty c = λ left l.
    let same = same_chain _ _ _ l c.in-Some.list.now c.in-Some.rest.now c.in-Some.ensures.0 c.in-Some.ensures.1 in
    some_octets _ _ c.is_empty.ensures c.if-not-is_empty.true (sym same.1)

pub returns-then-at-eq0 : goal.returns-then-at-eq0
returns-then-at-eq0 c = from_the_begin _ _ _ (whole_chain _ _ _ c.in-Some.ensures.1 (no_octets _ _ c.is_empty.ensures c.if-not-is_empty.false)) c.in-Some.ensures.0 c.if-at-eq0.true
