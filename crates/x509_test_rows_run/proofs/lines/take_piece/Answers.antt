use Rattle.x509_test_rows_run.proofs.Answering.{piece_more, piece_stopped, piece_ends}
use Rattle.x509_test_rows_run.proofs.lines.take_piece.Goals as goal

pub loop-at-preserved : goal.loop-at-preserved
loop-at-preserved g c =
    piece_more g.C.Codec.reencodes g.W.Sink.takes _ _ _ _ _ _ _ _ _ _ _ _ _ _ _ c.loop-at.invariant c.in-Some.ensures.0 c.in-Some.ensures.1 c.in-Some.ensures.2 c.in-Ok.ensures.ok

pub returns-in-Err-clause-err : goal.returns-in-Err-clause-err
returns-in-Err-clause-err g c =
    piece_stopped g.C.Codec.reencodes g.W.Sink.takes _ _ _ _ _ _ _ _ _ _ _ _ c.loop-at.invariant c.in-Some.ensures.0 c.in-Some.ensures.1 c.in-Some.ensures.2 c.in-Err.ensures.err

pub returns-clause-ok : goal.returns-clause-ok
returns-clause-ok g c =
    piece_ends g.C.Codec.reencodes g.W.Sink.takes _ _ _ _ _ _ _ _ _ _ _ _ c.loop-at.invariant c.in_default.ensures c.add.ensures
