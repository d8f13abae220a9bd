use Rattle.x509_c_calls.proofs.Standing.{is_sequence, none_stands, other_sequence, sequence_found}
use Rattle.x509_c_calls.proofs.place.signed.take_sequence.Goals as goal

pub returns-then-piece-octet-clause-none : goal.returns-then-piece-octet-clause-none
returns-then-piece-octet-clause-none c = λ content rest e. other_sequence _ _ c.in-Ok.ensures.exact (rw c.octet.ensures.octet at c.if-piece-octet.true) content rest e

pub returns-else-piece-octet-clause-some : goal.returns-else-piece-octet-clause-some
returns-else-piece-octet-clause-some c = sequence_found _ _ c.in-Ok.ensures.exact (rw c.octet.ensures.octet at c.if-piece-octet.false)

pub returns-in-Err-clause-none : goal.returns-in-Err-clause-none
returns-in-Err-clause-none c = λ content rest e. none_stands _ (rw c.in-Err.ensures.err at c.in-Err.ensures.exact) 48 content rest is_sequence e
