-- Words joined one after the other.
use Rattle.std.proofs.Common.{◌≡◌, ℕ, Bool, true, false, List, [], ◌∷◌, ◌++◌, Option, Some, None, refl, sym, ap, ◌∙◌, append_assoc, if◌then◌else◌}
use Rattle.x509_linter.specs.Choice.{is_end, joined_from, part_of, takes_value, with_value}
use Rattle.x509_linter.specs.declared.values.Part.{Part}
use Rattle.x509_linter.specs.declared.values.Part.TheVariants as parts

abbrev part : Bool → Bool → Part
part takes end = if takes then parts.Awaiting else if end then parts.End else parts.Whole

-- by what a word is, for any list that its part gives
awaiting_cases : {A : Type 0} (takes end : Bool) (x y z : A) → part takes end ≡ parts.Awaiting → (if takes then x else if end then y else z) ≡ x
awaiting_cases true end x y z is = refl
awaiting_cases false true x y z is = absurd cc
awaiting_cases false false x y z is = absurd cc

end_cases : {A : Type 0} (takes end : Bool) (x y z : A) → part takes end ≡ parts.End → (if takes then x else if end then y else z) ≡ y
end_cases true end x y z is = absurd cc
end_cases false true x y z is = refl
end_cases false false x y z is = absurd cc

whole_cases : {A : Type 0} (takes end : Bool) (x y z : A) → part takes end ≡ parts.Whole → (if takes then x else if end then y else z) ≡ z
whole_cases true end x y z is = absurd cc
whole_cases false true x y z is = absurd cc
whole_cases false false x y z is = refl

-- what all words come to, where the first are joined and these are left
pub record JoinedSo (whole done : List (List ℕ)) (awaiting : Option (List ℕ)) (over : Bool) (rest : List (List ℕ)) : Type 0 where
  pub so : whole ≡ done ++ joined_from awaiting over rest

module _ (whole done : List (List ℕ)) (word : List ℕ) (rest : List (List ℕ)) where
  more : (next : List (List ℕ)) → whole ≡ done ++ (word ∷ next) → whole ≡ (done ++ word ∷ []) ++ next
  more next h = h ∙ sym (append_assoc done (word ∷ []) next)

  pub after_value : (option : List ℕ) (over : Bool) → JoinedSo whole done (Some option) over (word ∷ rest) → JoinedSo whole (done ++ with_value option word ∷ []) None over rest
  after_value option over h = record { so = h.so ∙ sym (append_assoc done (with_value option word ∷ []) (joined_from None over rest)) }

  pub after_awaiting : (over : Bool) → JoinedSo whole done None over (word ∷ rest) → part_of over word ≡ parts.Awaiting → JoinedSo whole done (Some word) over rest
  after_awaiting true h is = absurd cc
  after_awaiting false h is = record { so = h.so ∙ ap (λ xs. done ++ xs) (awaiting_cases (takes_value word) (is_end word) (joined_from (Some word) false rest) (word ∷ joined_from None true rest) (word ∷ joined_from None false rest) is) }

  pub after_end : (over : Bool) → JoinedSo whole done None over (word ∷ rest) → part_of over word ≡ parts.End → JoinedSo whole (done ++ word ∷ []) None true rest
  after_end true h is = absurd cc
  after_end false h is = record { so = more (joined_from None true rest) (h.so ∙ ap (λ xs. done ++ xs) (end_cases (takes_value word) (is_end word) (joined_from (Some word) false rest) (word ∷ joined_from None true rest) (word ∷ joined_from None false rest) is)) }

  pub after_whole : (over : Bool) → JoinedSo whole done None over (word ∷ rest) → part_of over word ≡ parts.Whole → JoinedSo whole (done ++ word ∷ []) None over rest
  after_whole true h is = record { so = more (joined_from None true rest) h.so }
  after_whole false h is = record { so = more (joined_from None false rest) (h.so ∙ ap (λ xs. done ++ xs) (whole_cases (takes_value word) (is_end word) (joined_from (Some word) false rest) (word ∷ joined_from None true rest) (word ∷ joined_from None false rest) is)) }

-- behind the last word it doesn't matter whether `--` stood before
over_at_end : (awaiting : Option (List ℕ)) (over : Bool) → joined_from awaiting over [] ≡ joined_from awaiting false []
over_at_end None true = refl
over_at_end None false = refl
over_at_end (Some option) true = refl
over_at_end (Some option) false = refl

pub at_last : (whole done : List (List ℕ)) (awaiting : Option (List ℕ)) (over : Bool) → JoinedSo whole done awaiting over [] → done ++ joined_from awaiting false [] ≡ whole
at_last whole done awaiting over h = sym (h.so ∙ ap (λ xs. done ++ xs) (over_at_end awaiting over))
