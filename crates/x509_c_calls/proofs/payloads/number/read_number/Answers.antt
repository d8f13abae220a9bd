use Rattle.x509_c_calls.proofs.Refusals.{memory_is}
use Rattle.x509_c_calls.proofs.payloads.number.read_number.Goals as goal

pub returns-in-Err-clause-memory : goal.returns-in-Err-clause-memory
returns-in-Err-clause-memory g c = memory_is g.T.Grammar.refuses _ _ _ c.into.ensures c.in-Err.ensures.overlength c.in-Err.ensures.refused
