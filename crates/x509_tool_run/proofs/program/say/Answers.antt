use Rattle.std.proofs.Common.{List, ℕ, subst, inr, refl}
use Rattle.x509_tool_run.specs.Program.{IsCutOff}
use Rattle.x509_tool_run.proofs.program.say.Goals as goal

pub returns-in-Err : goal.returns-in-Err
returns-in-Err g c text is =
    let Cut : List ℕ → Type 0 = λ line. IsCutOff g.W.Sink.takes c.args.writer.now line c.write_text.new.writer in
    inr (subst Cut is c.in-Err.ensures.err, refl)
