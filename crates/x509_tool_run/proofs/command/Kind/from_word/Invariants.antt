use Rattle.std.proofs.Common.{◌≡◌, length, map}
use Rattle.x509_tool_run.specs.Command.{kind_of}
use Rattle.x509_tool_run.proofs.KindWords.{kind_among}
use Rattle.x509_tool_run.proofs.command.Kind.from_word.Given as goal

-- the rows so far have other words
abbrev pub invariant-loop-rows : goal.invariant-loop-rows
invariant-loop-rows l = kind_among l.word (map (λ row. (row.0.now, row.1)) l.rows) ≡ kind_of l.word

abbrev pub decreases-loop-rows : goal.decreases-loop-rows
decreases-loop-rows l = length l.rows
