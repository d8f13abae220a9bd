use Rattle.std.proofs.Common.{map, string_bytes}
use Rattle.x509_tool_run.proofs.GivenWords.{WordsUpTo}
use Rattle.x509_tool_run.proofs.arguments.words.Given as goal

abbrev pub invariant-loop-place : goal.invariant-loop-place
invariant-loop-place g l = WordsUpTo (g.A.Arguments.gives l.fn.arguments) l.place (map string_bytes l.words.items)
