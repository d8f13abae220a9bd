use Rattle.std.proofs.Common.{◌≡◌, ◌++◌, ℕ, List, [], OnErr, ap, sym, subst, ◌∙◌, append_assoc, append-nil}
use Rattle.x509_tool_run.specs.Program.{IsCutOff}
use Rattle.x509_object_run.proofs.heading.write_headed.Goals as goal

pub returns-clause-err : goal.returns-clause-err
returns-clause-err g c =
    let name = c.as_bytes.result.now in
    let end = c.as_bytes-2.result.now in
    let text = c.args.text.now in
    let same : name ++ (end ++ (text ++ [])) ≡ name ++ end ++ text = ap (λ xs. name ++ (end ++ xs)) (append-nil text) ∙ sym (append_assoc name end text) in
    let Cut : List ℕ → Type 0 = λ xs. OnErr c.write_texts.result (IsCutOff g.W.Sink.takes c.args.writer.now xs c.write_texts.new.writer) in
    rw (c.as_bytes.ensures.value, c.as_bytes-2.ensures.value) at (subst Cut same c.write_texts.ensures.err)
