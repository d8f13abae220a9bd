use Rattle.std.proofs.Common.{drop, map, string_bytes}
use Rattle.std.specs.Option.{option_map}
use Rattle.x509_linter.specs.Choice.{joined}
use Rattle.x509_linter.proofs.JoinedWords.{JoinedSo}
use Rattle.x509_linter.proofs.values.joined.Given as goal

-- the words so far are joined
abbrev pub invariant-loop-word : goal.invariant-loop-word
invariant-loop-word l = JoinedSo (joined (map string_bytes l.words)) (map string_bytes l.joined.items) (option_map (λ option. option.now) l.awaiting) l.is_over (map string_bytes (drop l.word-index l.words))
