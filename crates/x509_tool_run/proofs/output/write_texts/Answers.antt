use Rattle.x509_tool_run.proofs.Writes.{cut_off_there, written_further}
use Rattle.x509_tool_run.proofs.output.write_texts.Goals as goal

pub returns-in-Err-clause-err : goal.returns-in-Err-clause-err
returns-in-Err-clause-err g c =
    cut_off_there (λ text. text.now) g.W.Sink.takes _ _ _ c.args.texts.now c.loop-text.text-index _ c.loop-text-test.true c.loop-text.invariant c.in-Err.ensures.err

pub loop-text-preserved : goal.loop-text-preserved
loop-text-preserved g c =
    written_further (λ text. text.now) g.W.Sink.takes _ _ _ c.args.texts.now c.loop-text.text-index _ c.loop-text-test.true c.loop-text.invariant c.in_default.ensures.ok
