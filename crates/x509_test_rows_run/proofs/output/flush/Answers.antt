use Rattle.x509_test_rows_run.proofs.Writing.{flush_ok, flush_err}
use Rattle.x509_test_rows_run.proofs.output.flush.Goals as goal

pub returns-clause-ok : goal.returns-clause-ok
returns-clause-ok g c =
    flush_ok g.W.Sink.takes c.args.held.now.items _ _ _ (rw c.as_slice.ensures.value at c.write_text-written.ensures.ok)

pub returns-clause-err : goal.returns-clause-err
returns-clause-err g c =
    flush_err g.W.Sink.takes c.args.held.now.items _ _ _ (rw c.as_slice.ensures.value at c.write_text-written.ensures.err)
