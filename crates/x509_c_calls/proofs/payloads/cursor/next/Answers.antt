use Rattle.x509_c_calls.proofs.PayloadMembers.{fits, goes_on, is_next, stops}
use Rattle.x509_c_calls.proofs.Walks.{left_fits, some_octets}
use Rattle.x509_c_calls.proofs.payloads.cursor.next.Goals as goal

pub overflow_sub-place : goal.overflow_sub-place
overflow_sub-place g c = left_fits _ _ _ _ c.in_ok-rest.ensures.ok

pub returns-in-Err-clause-refused : goal.returns-in-Err-clause-refused
returns-in-Err-clause-refused g c =
    rw c.kind.ensures (stops g.T.Grammar.form g.met.T.Grammar.lawful _ _ _ _ c.in_ok-rest.ensures.ok _ _ (some_octets _ _ c.is_empty.ensures c.if-is_empty.false) c.in-Err.ensures.exact c.in-Err.ensures.memory)

pub overflow_sub-end : goal.overflow_sub-end
overflow_sub-end g c = fits g.T.Grammar.form g.met.T.Grammar.lawful _ _ _ _ c.in_ok-rest.ensures.ok _ _ c.in-Ok.ensures.exact

pub overflow_sub-result : goal.overflow_sub-result
overflow_sub-result g c = goes_on g.T.Grammar.form g.met.T.Grammar.lawful _ _ _ _ c.in_ok-rest.ensures.ok _ _ c.in-Ok.ensures.exact

pub returns-clause-found : goal.returns-clause-found
returns-clause-found g c = (c.read_field.new.rest.now, is_next g.T.Grammar.form g.met.T.Grammar.lawful _ _ _ _ c.in_ok-rest.ensures.ok _ _ c.in-Ok.ensures.exact)
