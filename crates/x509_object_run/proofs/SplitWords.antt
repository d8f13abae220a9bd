-- Words told apart one after the other.
use Rattle.std.proofs.Common.{◌≡◌, ℕ, Bool, true, false, List, [], ◌∷◌, ◌++◌, map, bytes_eq, codes, refl, sym, ap, ◌∙◌, append_assoc, if◌then◌else◌}
use Rattle.std.specs.List.{list_any}
use Rattle.x509_object_run.specs.Words.{is_option, names_of, options_of, part_of}
use Rattle.x509_object_run.specs.declared.words.Part.{Part}
use Rattle.x509_object_run.specs.declared.words.Part.TheVariants as parts

-- the options of words, and their names, where `--` stood before or didn't
abbrev pub options_behind : Bool → List (List ℕ) → List (List ℕ)
options_behind true words = []
options_behind false words = options_of words

abbrev pub names_behind : Bool → List (List ℕ) → List (List ℕ)
names_behind true words = words
names_behind false words = names_of words

abbrev part : Bool → Bool → Part
part option end = if option then (if end then parts.End else parts.Option) else parts.Name

-- by what a word is, for any list that its part gives
name_cases : {A : Type 0} (option end : Bool) (x y z : A) → part option end ≡ parts.Name → (if option then (if end then x else y) else z) ≡ z
name_cases true true x y z is = absurd cc
name_cases true false x y z is = absurd cc
name_cases false end x y z is = refl

end_cases : {A : Type 0} (option end : Bool) (x y z : A) → part option end ≡ parts.End → (if option then (if end then x else y) else z) ≡ x
end_cases true true x y z is = refl
end_cases true false x y z is = absurd cc
end_cases false end x y z is = absurd cc

option_cases : {A : Type 0} (option end : Bool) (x y z : A) → part option end ≡ parts.Option → (if option then (if end then x else y) else z) ≡ y
option_cases true true x y z is = absurd cc
option_cases true false x y z is = refl
option_cases false end x y z is = absurd cc

-- what words come to, split so far
pub record SplitSo (words : List (List ℕ)) (over : Bool) (options names rest : List (List ℕ)) : Type 0 where
  pub options_so : options_of words ≡ options ++ options_behind over rest
  pub names_so : names_of words ≡ names ++ names_behind over rest

one_behind : (front : List (List ℕ)) (word : List ℕ) (rest whole next : List (List ℕ)) → whole ≡ front ++ next → next ≡ word ∷ rest → whole ≡ (front ++ word ∷ []) ++ rest
one_behind front word rest whole next so is = so ∙ ap (λ xs. front ++ xs) is ∙ sym (append_assoc front (word ∷ []) rest)

module _ (words options names : List (List ℕ)) (word : List ℕ) (rest : List (List ℕ)) where
  pub after_name : (over : Bool) → SplitSo words over options names (word ∷ rest) → part_of over word ≡ parts.Name → SplitSo words over options (names ++ word ∷ []) rest
  after_name true h is = record { options_so = h.options_so; names_so = one_behind names word rest _ _ h.names_so refl }
  after_name false h is = record {
    options_so = h.options_so ∙ ap (λ xs. options ++ xs) (name_cases (is_option word) (bytes_eq word (codes "--")) [] (word ∷ options_of rest) (options_of rest) is);
    names_so = one_behind names word (names_of rest) _ _ h.names_so (name_cases (is_option word) (bytes_eq word (codes "--")) rest (names_of rest) (word ∷ names_of rest) is);
  }

  pub after_end : (over : Bool) → SplitSo words over options names (word ∷ rest) → part_of over word ≡ parts.End → SplitSo words true options names rest
  after_end true h is = absurd cc
  after_end false h is = record {
    options_so = h.options_so ∙ ap (λ xs. options ++ xs) (end_cases (is_option word) (bytes_eq word (codes "--")) [] (word ∷ options_of rest) (options_of rest) is);
    names_so = h.names_so ∙ ap (λ xs. names ++ xs) (end_cases (is_option word) (bytes_eq word (codes "--")) rest (names_of rest) (word ∷ names_of rest) is);
  }

  pub after_option : (over : Bool) → SplitSo words over options names (word ∷ rest) → part_of over word ≡ parts.Option → SplitSo words over (options ++ word ∷ []) names rest
  after_option true h is = absurd cc
  after_option false h is = record {
    options_so = one_behind options word (options_of rest) _ _ h.options_so (option_cases (is_option word) (bytes_eq word (codes "--")) [] (word ∷ options_of rest) (options_of rest) is);
    names_so = h.names_so ∙ ap (λ xs. names ++ xs) (option_cases (is_option word) (bytes_eq word (codes "--")) rest (names_of rest) (word ∷ names_of rest) is);
  }

pub list_any-map : {A B : Type 0} (holds : B → Bool) (f : A → B) (xs : List A) → list_any holds (map f xs) ≡ list_any (λ x. holds (f x)) xs
list_any-map holds f [] = refl
list_any-map holds f (x ∷ xs) = rw (list_any-map holds f xs) refl
