-- Texts that are written one after the other.
use Rattle.std.proofs.Common.{◌≡◌, ℕ, List, ◌++◌, Result, OnOk, append_assoc}

module _ {T E : Type 0} (result : Result T E) where
  -- one text behind others
  pub written_behind : (start s t a b : List ℕ) → s ≡ start ++ a → OnOk result (t ≡ s ++ b) → OnOk result (t ≡ start ++ (a ++ b))
  written_behind start s t a b first last = rw (← append_assoc start a b, ← first) last

  pub three_written : (start s t end a b c : List ℕ) → s ≡ start ++ a → t ≡ s ++ b → OnOk result (end ≡ t ++ c) → OnOk result (end ≡ start ++ (a ++ (b ++ c)))
  three_written start s t end a b c first second last = written_behind start s end a (b ++ c) first (written_behind s t end b c second last)

  pub four_written : (start s t u end a b c d : List ℕ) → s ≡ start ++ a → t ≡ s ++ b → u ≡ t ++ c → OnOk result (end ≡ u ++ d) → OnOk result (end ≡ start ++ (a ++ (b ++ (c ++ d))))
  four_written start s t u end a b c d first second third last =
      written_behind start s end a (b ++ (c ++ d)) first
      (written_behind s t end b (c ++ d) second
      (written_behind t u end c d third last))

  pub five_written : (start s t u v end a b c d e : List ℕ) → s ≡ start ++ a → t ≡ s ++ b → u ≡ t ++ c → v ≡ u ++ d → OnOk result (end ≡ v ++ e) → OnOk result (end ≡ start ++ (a ++ (b ++ (c ++ (d ++ e)))))
  five_written start s t u v end a b c d e first second third fourth last =
      written_behind start s end a (b ++ (c ++ (d ++ e))) first
      (four_written s t u v end b c d e second third fourth last)
