use Rattle.std.proofs.Common.{◌≡◌, string_bytes}
use Rattle.x509_tool_run.specs.Answer.{IsLineAnswer, as_line, codecs_of}
use Rattle.x509_tool_run.proofs.AnswerLemmas.{answers_line}
use Rattle.x509_tool_run.proofs.program.read_and_answer.Goals as goal

pub returns : goal.returns
returns g c =
    answers_line (λ line text. string_bytes line ≡ as_line text) (IsLineAnswer (codecs_of g.C.Codec.reencodes g.C.NameCodec.prints_name g.C.NameCodec.encodes_name) c.args.command) g.R.Source.gives _ _ c.in_ok-input.input.items c.line_of.result.now c.answer.result c.in_ok-input.ensures (rw c.as_slice.ensures.value at c.line_of.ensures) c.answer.ensures
