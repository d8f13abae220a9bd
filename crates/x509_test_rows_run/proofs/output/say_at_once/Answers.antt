use Rattle.x509_test_rows_run.proofs.Writing.{at_once_ok, at_once_err, cut_longer}
use Rattle.x509_test_rows_run.proofs.output.say_at_once.Goals as goal

pub returns-in-Ok-clause-ok : goal.returns-in-Ok-clause-ok
returns-in-Ok-clause-ok g c =
    rw c.flush.ensures.empty (at_once_ok g.W.Sink.takes c.args.held.now.items c.args.text.now _ _ _ _ c.in-Ok.ensures.ok c.write_text.ensures.ok)

pub returns-in-Ok-clause-err : goal.returns-in-Ok-clause-err
returns-in-Ok-clause-err g c =
    at_once_err g.W.Sink.takes c.args.held.now.items c.args.text.now _ _ _ _ c.in-Ok.ensures.ok c.write_text.ensures.err

pub returns-in-Err-clause-err : goal.returns-in-Err-clause-err
returns-in-Err-clause-err g c start output h =
    cut_longer g.W.Sink.takes start output c.args.text.now _ (c.in-Err.ensures.err start output h)
