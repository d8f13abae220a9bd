use Rattle.x509_test_rows_run.proofs.Answering.{ends_empty, ends_said, ends_cut}
use Rattle.x509_test_rows_run.proofs.lines.end_input.Goals as goal

pub returns-then-is_empty-clause-ok : goal.returns-then-is_empty-clause-ok
returns-then-is_empty-clause-ok g c start input h =
    ends_empty g.C.Codec.reencodes g.W.Sink.takes _ _ _ start input _ (λ rest keeps. (c.is_empty.ensures rest keeps).0 c.if-is_empty.true) h

pub returns-in-Ok-clause-ok : goal.returns-in-Ok-clause-ok
returns-in-Ok-clause-ok g c start input h =
    ends_said g.C.Codec.reencodes g.W.Sink.takes _ _ _ _ start input _ _ (λ rest keeps empty. let yes = (c.is_empty.ensures rest keeps).1 empty in let no = c.if-is_empty.false in absurd (cc)) c.in-Ok.ensures.ok h

pub returns-in-Err-clause-err : goal.returns-in-Err-clause-err
returns-in-Err-clause-err g c start input h =
    ends_cut g.C.Codec.reencodes g.W.Sink.takes _ _ _ start input _ _ (λ rest keeps empty. let yes = (c.is_empty.ensures rest keeps).1 empty in let no = c.if-is_empty.false in absurd (cc)) c.in-Err.ensures.err h
