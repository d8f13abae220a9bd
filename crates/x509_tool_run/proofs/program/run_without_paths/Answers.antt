use Rattle.std.proofs.Common.{sym, ◌∙◌, Err}
use Rattle.x509_tool_run.specs.Answer.{text_of}
use Rattle.x509_tool_run.proofs.program.run_without_paths.Goals as goal

pub returns-in-Err-clause-obeys : goal.returns-in-Err-clause-obeys
returns-in-Err-clause-obeys g c =
    rw (sym c.from_words.ensures ∙ c.in-Some.is) (Err c.in-Err.refusal, c.in-Err.ensures, c.say-in-Err.ensures (text_of (Err c.in-Err.refusal)) c.line.ensures)
