use Rattle.std.proofs.Common.{Ok, Err, ◌∙◌}
use Rattle.x509_test_rows_run.proofs.Answering.{answered_ok, answered_err}
use Rattle.x509_test_rows_run.proofs.lines.answer_line.Goals as goal

pub returns-in-Ok-clause-ok : goal.returns-in-Ok-clause-ok
returns-in-Ok-clause-ok g c =
    answered_ok g.W.Sink.takes g.C.Codec.reencodes _ _ _ _ _ _ _ _ (λ rest keeps. let a = c.in-Ok.ensures rest keeps in (Ok a.0, a.1, c.as_bytes.ensures.value ∙ c.as_str.ensures.value ∙ a.2)) c.say.ensures.ok

pub returns-in-Ok-clause-err : goal.returns-in-Ok-clause-err
returns-in-Ok-clause-err g c =
    answered_err g.W.Sink.takes g.C.Codec.reencodes _ _ _ _ _ _ _ (λ rest keeps. let a = c.in-Ok.ensures rest keeps in (Ok a.0, a.1, c.as_bytes.ensures.value ∙ c.as_str.ensures.value ∙ a.2)) c.say.ensures.err

pub returns-in-Err-clause-ok : goal.returns-in-Err-clause-ok
returns-in-Err-clause-ok g c =
    answered_ok g.W.Sink.takes g.C.Codec.reencodes _ _ _ _ _ _ _ _ (λ rest keeps. (Err c.in-Err.refusal, c.in-Err.ensures rest keeps, c.line.ensures)) c.say-in-Err.ensures.ok

pub returns-in-Err-clause-err : goal.returns-in-Err-clause-err
returns-in-Err-clause-err g c =
    answered_err g.W.Sink.takes g.C.Codec.reencodes _ _ _ _ _ _ _ (λ rest keeps. (Err c.in-Err.refusal, c.in-Err.ensures rest keeps, c.line.ensures)) c.say-in-Err.ensures.err
