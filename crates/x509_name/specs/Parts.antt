-- A text split into parts at a separator that no backslash escapes (RFC 4514 sections 2.1, 2.2 and 3).
use Rattle.std.specs.Prelude.{◌≡◌, ℕ, suc, ◌%◌, ◌<◌, nat_eq, List, [], ◌∷◌, ◌++◌, length, if◌then◌else◌}
use Rattle.std.specs.List.{AllByRecursion, join_with_byte}

-- how many backslashes stand in a row at the end of a text, where so many stand in a row before it
abbrev pub run_from : ℕ → List ℕ → ℕ
run_from before [] = before
run_from before (byte ∷ text) = if nat_eq byte 92 then run_from (suc before) text else run_from 0 text

abbrev pub run_at_end : List ℕ → ℕ
run_at_end text = run_from 0 text

-- each separator in the part stands directly behind an odd run of backslashes
abbrev pub KeepsSeparators : ℕ → List ℕ → Type 0
KeepsSeparators separator part = (front rest : List ℕ) → part ≡ front ++ separator ∷ rest → run_at_end front % 2 ≡ 1

-- the part ends with an even run of backslashes, or none
abbrev pub EndsEven : List ℕ → Type 0
EndsEven part = run_at_end part % 2 ≡ 0

-- P holds of each but the last
abbrev pub AllButLast : {X : Type 0} → (X → Type 0) → List X → Type 0
AllButLast P [] = Unit {0}
AllButLast P (x ∷ []) = Unit {0}
AllButLast P (x ∷ y ∷ xs) = P x × AllButLast P (y ∷ xs)

-- the text is these parts, one at least, with a separator between each two
pub record Joined (separator : ℕ) (parts : List (List ℕ)) (text : List ℕ) : Type 0 where
  pub some : 0 < length parts
  pub joined : text ≡ join_with_byte separator parts
  pub keep : AllByRecursion (KeepsSeparators separator) parts
  pub even : AllButLast EndsEven parts
