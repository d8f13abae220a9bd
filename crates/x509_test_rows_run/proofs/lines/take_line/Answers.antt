use Rattle.x509_test_rows_run.proofs.Answering.{line_ok, line_err}
use Rattle.x509_test_rows_run.proofs.lines.take_line.Goals as goal

pub returns-clause-ok : goal.returns-clause-ok
returns-clause-ok g c =
    line_ok g.C.Codec.reencodes g.W.Sink.takes c.args.last.now _ _ _ _ _ _ _ _ _ _ _ c.add.ensures c.answer_line-answered.ensures.ok c.clear.ensures

pub returns-clause-err : goal.returns-clause-err
returns-clause-err g c =
    line_err g.C.Codec.reencodes g.W.Sink.takes c.args.last.now _ _ _ _ _ _ _ _ c.add.ensures c.answer_line-answered.ensures.err
