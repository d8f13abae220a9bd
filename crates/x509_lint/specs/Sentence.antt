-- A rule as one sentence: how it is told, and what breaks it.
use Rattle.std.specs.Prelude.{Bool, ℕ, List, map, filter, codes}
use Rattle.x509_lint.specs.Wording as wording
use Rattle.x509_lint.specs.Wording.{Wording}
use Rattle.x509_lint.specs.declared.group.Told.{Told}

-- O is the object of which it speaks, V what rules look at beside that
pub record Sentence (O V : Type 0) : Type 0 where
  pub wording : Wording
  pub breaks : O → V → Bool

-- the section says MUST or MUST NOT, REQUIRED, or has a size or a type
abbrev pub must_of : {O V : Type 0} → List ℕ → List ℕ → List ℕ → List ℕ → (O → V → Bool) → Sentence O V
must_of standard name section place breaks = record { wording = wording.must_of standard name section place; breaks = breaks }

-- the section says SHOULD or SHOULD NOT
abbrev pub should_of : {O V : Type 0} → List ℕ → List ℕ → List ℕ → List ℕ → (O → V → Bool) → Sentence O V
should_of standard name section place breaks = record { wording = wording.should_of standard name section place; breaks = breaks }

-- sections of RFC 5280
abbrev pub must : {O V : Type 0} → List ℕ → List ℕ → List ℕ → (O → V → Bool) → Sentence O V
must name section place breaks = must_of (codes "RFC 5280") name section place breaks

abbrev pub should : {O V : Type 0} → List ℕ → List ℕ → List ℕ → (O → V → Bool) → Sentence O V
should name section place breaks = should_of (codes "RFC 5280") name section place breaks

-- the section allows it, and this library doesn't read it
abbrev pub not_judged : {O V : Type 0} → List ℕ → List ℕ → List ℕ → (O → V → Bool) → Sentence O V
not_judged name section place breaks = record { wording = wording.not_judged name section place; breaks = breaks }

-- those of the rules that the object, with these values, breaks
abbrev pub broken : {O V R : Type 0} → (R → Sentence O V) → O → V → List R → List R
broken sentence o v rules = filter (λ rule. (sentence rule).breaks o v) rules

-- the rules of a table
abbrev pub rules_of : {R : Type 0} → List (Told R) → List R
rules_of {R} table = map (λ (told : Told R). told.rule) table
