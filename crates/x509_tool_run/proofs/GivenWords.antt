-- Words of arguments one after the other.
use Rattle.std.proofs.Common.{◌≡◌, ℕ, ◌+◌, List, [], ◌∷◌, ◌++◌, map, Option, Some, None, sym, subst, append_assoc, append-nil}
use Rattle.std.proofs.lemmas.List.{map_push}
use Rattle.x509_tool_run.specs.Words.{AreGiven, AreWords, word_of}

-- words so far: those of arguments that may be given in front of any that may follow at the place
pub record WordsUpTo (gives : ℕ → Option (List ℕ) → Type 0) (place : ℕ) (words : List (List ℕ)) : Type 0 where
  pub arguments : List (List ℕ)
  pub given : (rest : List (List ℕ)) → AreGiven gives place rest → AreGiven gives 1 (arguments ++ rest)
  pub words_of : words ≡ map word_of arguments

pub one_more : {gives : ℕ → Option (List ℕ) → Type 0} (place : ℕ) (words : List (List ℕ)) (argument word : List ℕ) → WordsUpTo gives place words → gives place (Some argument) → word ≡ word_of argument → WordsUpTo gives (place + 1) (words ++ word ∷ [])
one_more {gives} place words argument word h is said = record {
  arguments = h.arguments ++ argument ∷ [];
  given = λ rest after. subst (AreGiven gives 1) (sym (append_assoc h.arguments (argument ∷ []) rest)) (h.given (argument ∷ rest) (is, after));
  words_of = rw (h.words_of, said) (sym (map_push word_of h.arguments argument));
}

pub all_words : {gives : ℕ → Option (List ℕ) → Type 0} (place : ℕ) (words : List (List ℕ)) → WordsUpTo gives place words → gives place None → AreWords gives words
all_words {gives} place words h none = (h.arguments, subst (AreGiven gives 1) (append-nil h.arguments) (h.given [] none), h.words_of)
