use Rattle.std.proofs.Common.{map, drop, string_bytes}
use Rattle.x509_object_run.proofs.SplitWords.{SplitSo}
use Rattle.x509_object_run.proofs.words.split.Given as goal

-- the words so far are told apart
abbrev pub invariant-loop-word : goal.invariant-loop-word
invariant-loop-word l = SplitSo (map string_bytes l.words) l.is_over (map (λ word. word.now) l.options.items) (map (λ word. word.now) l.names.items) (map string_bytes (drop l.word-index l.words))
