use Rattle.std.proofs.Common.{inr, string_bytes}
use Rattle.hex.specs.Hex.{encode_upper}
use Rattle.x509_tool_run.specs.Answer.{IsShown}
use Rattle.x509_tool_run.proofs.AnswerLemmas.{text_line, no_text}
use Rattle.x509_tool_run.proofs.program.encode_name_line.Goals as goal

pub returns : goal.returns
returns g c =
    text_line string_bytes (IsShown encode_upper g.C.NameCodec.encodes_name) c.args.line.now _ c.encode_text.result c.in-Ok.ensures.cases.0 c.in-Ok.ensures.cases.1 c.encode_text.ensures

pub returns-in_default : goal.returns-in_default
returns-in_default g c = inr (no_text (IsShown encode_upper g.C.NameCodec.encodes_name) c.args.line.now c.in_default.ensures.cases.0)
