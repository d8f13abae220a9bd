-- The first attribute of a type, where those in front of it were passed.
use Rattle.std.proofs.Common.{◌≡◌, ℕ, false, List, [], ◌∷◌, ◌++◌, None, bytes_eq, refl, sym, ap, ◌∙◌, inl, inr, append_assoc}
use Rattle.std.proofs.lemmas.Bool.{cases_Bool}
use Rattle.std.proofs.lemmas.List.{append-nil}
use Rattle.x509_der.specs.List.{joined}
use Rattle.x509_name.specs.Iterators.{members_of}
use Rattle.x509_name.specs.LookUp.{first_of_type}
use Rattle.x509_name.specs.declared.attr.type_and_value.AttributeTypeAndValue.{AttributeTypeAndValue}

-- none is of the type in two lists
pub none_in_both : (oid : List ℕ) (xs ys : List AttributeTypeAndValue) → first_of_type oid xs ≡ None → first_of_type oid ys ≡ None → first_of_type oid (xs ++ ys) ≡ None
none_in_both oid [] ys a b = b
none_in_both oid (x ∷ xs) ys a b = elim (cases_Bool (bytes_eq x.oid oid)) [
  | inl same ↦ absurd (let found = rw same at a in cc)
  | inr other ↦ (let none = rw other at a in rw other (none_in_both oid xs ys none b))
]

pub none_here : (oid : List ℕ) (first : AttributeTypeAndValue) → bytes_eq first.oid oid ≡ false → first_of_type oid (first ∷ []) ≡ None
none_here oid first other = rw other refl

-- the members of one list more
members-more : (before : List (List AttributeTypeAndValue)) (rdn : List AttributeTypeAndValue) → members_of (before ++ rdn ∷ []) ≡ members_of before ++ rdn
members-more [] rdn = append-nil rdn
members-more (first ∷ before) rdn = ap (λ (x : List AttributeTypeAndValue). first ++ x) (members-more before rdn) ∙ sym (append_assoc first (members_of before) rdn)

pub none_in_more : (oid : List ℕ) (before : List (List AttributeTypeAndValue)) (rdn : List AttributeTypeAndValue) → first_of_type oid (members_of before) ≡ None → first_of_type oid rdn ≡ None → first_of_type oid (members_of (before ++ rdn ∷ [])) ≡ None
none_in_more oid before rdn a b = ap (first_of_type oid) (members-more before rdn) ∙ none_in_both oid (members_of before) rdn a b

-- a list in front of the first of the rest and behind it, and in front of the others
pub split_first : {X : Type 0} → (all before rest others : List X) (first : X) → rest ≡ first ∷ others → all ≡ before ++ rest → all ≡ before ++ first ∷ others
split_first all before rest others first is e = e ∙ ap (λ x. before ++ x) is

pub one_further : {X : Type 0} → (all before rest others : List X) (first : X) → rest ≡ first ∷ others → all ≡ before ++ rest → all ≡ (before ++ first ∷ []) ++ others
one_further all before rest others first is e = split_first all before rest others first is e ∙ sym (append_assoc before (first ∷ []) others)

-- octets that begin with those of the first
pub first_stands : {X : Type 0} (text : X → List ℕ) (rest others : List X) (first : X) (here more : List ℕ) → rest ≡ first ∷ others → here ≡ joined text rest ++ more → here ≡ text first ++ (joined text others ++ more)
unfolding joined
first_stands text rest others first here more is e = e ∙ rw is (append_assoc (text first) (joined text others) more)

pub first_stands_alone : {X : Type 0} (text : X → List ℕ) (rest others : List X) (first : X) (here : List ℕ) → rest ≡ first ∷ others → here ≡ joined text rest → here ≡ text first ++ joined text others
unfolding joined
first_stands_alone text rest others first here is e = e ∙ ap (joined text) is
