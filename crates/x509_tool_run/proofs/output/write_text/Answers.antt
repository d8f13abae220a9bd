use Rattle.x509_tool_run.proofs.Writes.{written_more}
use Rattle.x509_tool_run.proofs.output.write_text.Goals as goal

pub loop-rest-preserved : goal.loop-rest-preserved
loop-rest-preserved g c =
    written_more g.W.Sink.takes _ _ _ _ _ _ c.loop-rest.invariant c.in-Ok.ensures.takes c.in-Ok.count-test.1 c.in-Ok.ensures.fits
