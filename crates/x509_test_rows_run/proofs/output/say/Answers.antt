use Rattle.x509_test_rows_run.proofs.Writing.{page_ok}
use Rattle.x509_test_rows_run.proofs.output.say.Goals as goal

pub returns-in-Ok-2-clause-ok : goal.returns-in-Ok-2-clause-ok
returns-in-Ok-2-clause-ok g c =
    rw c.flush.ensures.empty (page_ok g.W.Sink.takes c.args.held.now.items c.args.text.now _ _ _ (rw c.in-Ok-2.ensures.items at c.flush.ensures.ok))
