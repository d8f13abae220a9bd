use Rattle.std.proofs.Common.{◌∙◌, codes, Ok, Err, Some, None, refl, subst, Option, List, ℕ}
use Rattle.x509_tool_run.specs.Answer.{text_of}
use Rattle.x509_tool_run.specs.Path.{IsPathLine, fault_text}
use Rattle.x509_tool_run.specs.Program.{Answers}
use Rattle.x509_tool_run.proofs.Paths.{no_fault, one_fault}
use Rattle.x509_tool_run.proofs.program.check_and_say.Goals as goal

pub returns-in-Ok-None : goal.returns-in-Ok-None
returns-in-Ok-None g c =
    let At : Option (List ℕ) → Type 0 = λ fault. Answers (IsPathLine (g.C.PathCodec.checks_path c.args.accepted) c.args.moment.now) g.R.Source.gives c.args.reader.now c.read_and_check.new.reader (Ok fault) in
    (Ok None, subst At (no_fault c.in-Ok-None.ensures.0 (rw c.in-Ok-None.field-0-is at c.in-Ok-None.ensures.2)) c.in-Ok-None.ensures.1, c.say.ensures (codes "ok") refl)

pub returns-in-Ok-Some : goal.returns-in-Ok-Some
returns-in-Ok-Some g c =
    let At : Option (List ℕ) → Type 0 = λ fault. Answers (IsPathLine (g.C.PathCodec.checks_path c.args.accepted) c.args.moment.now) g.R.Source.gives c.args.reader.now c.read_and_check.new.reader (Ok fault) in
    let told = one_fault _ c.in-Ok-Some.ensures.0 (rw c.in-Ok-Some.field-0-is at c.in-Ok-Some.ensures.2) in
    (Ok (Some told.0), subst At told.1 c.in-Ok-Some.ensures.1, c.say-in-Ok-Some.ensures (fault_text told.0) (c.as_bytes.ensures.value ∙ c.as_str.ensures.value ∙ told.2))

pub returns-in-Err : goal.returns-in-Err
returns-in-Err g c = (Err c.in-Err.refusal, c.in-Err.ensures, c.say-in-Err.ensures (text_of (Err c.in-Err.refusal)) c.line.ensures)
