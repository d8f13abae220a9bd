use Rattle.std.proofs.Common.{inl, inr, refl}
use Rattle.x509_test_rows_run.proofs.Running.{all_written}
use Rattle.x509_test_rows_run.proofs.program.run.Goals as goal

pub returns-in-Ok-flush : goal.returns-in-Ok-flush
returns-in-Ok-flush g c =
    let a = c.in-Ok.ensures.ok c.new-held.ensures.items in
    inl (a.0, a.1, all_written g.W.Sink.takes _ a.0 _ (c.in-Ok-flush.ensures.ok _ a.0 a.2))

pub returns-in-Ok : goal.returns-in-Ok
returns-in-Ok g c =
    let a = c.in-Ok.ensures.ok c.new-held.ensures.items in
    inr (a.0, c.in-Ok.status, inl a.1, c.in-Err-flush.ensures.err _ a.0 a.2, refl)
