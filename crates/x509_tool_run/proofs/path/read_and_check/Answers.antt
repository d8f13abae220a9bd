use Rattle.std.proofs.Common.{◌≡◌, ℕ, Vec, Global, string_bytes}
use Rattle.std.proofs.lemmas.Result.{err_from_is_err_and}
use Rattle.std.specs.Option.{option_map}
use Rattle.x509_tool_run.specs.Path.{IsPathLine, fault_line}
use Rattle.x509_tool_run.proofs.AnswerLemmas.{answers_line, answers_unread}
use Rattle.x509_tool_run.proofs.path.read_and_check.Goals as goal

pub returns : goal.returns
returns g c =
    answers_line (λ told fault. option_map string_bytes told ≡ fault_line fault) (IsPathLine (g.C.PathCodec.checks_path c.args.accepted) c.args.moment.now) g.R.Source.gives _ _ c.in_ok-input.input.items c.line_of.result.now c.tell_fault.result c.in_ok-input.ensures (rw c.as_slice.ensures.value at c.line_of.ensures) c.tell_fault.ensures

pub returns-in_err-input : goal.returns-in_err-input
returns-in_err-input g c =
    let p = err_from_is_err_and c.from_residual.result c.from_residual.ensures.1 in
    rw (p.1, p.2) (answers_unread {X = Vec ℕ Global} (λ input. input.items) (IsPathLine (g.C.PathCodec.checks_path c.args.accepted) c.args.moment.now) g.R.Source.gives _ _ _ c.in_err-input.ensures)
