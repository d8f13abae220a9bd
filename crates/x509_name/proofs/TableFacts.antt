-- Facts of the table of attribute names, by computation.
use Rattle.std.proofs.Common.{◌≡◌, ℕ, Bool, true, ◌&&◌, leb, List, [], ◌∷◌, map, Some, refl, arith, inl, inr, subst}
use Rattle.std.specs.List.{list_all, slice_index}
use Rattle.std.specs.Char.{is_ascii_uppercase}
use Rattle.std.specs.Str.{str_to_ascii_lowercase, str_eq_ignore_ascii_case}
use Rattle.std.proofs.lemmas.Bool.{and_parts, cases_Bool}
use Rattle.std.proofs.lemmas.Bool.Decides.{nat_tests}
use Rattle.std.proofs.lemmas.Slice.Eq.{bytes_eq-Decides}
use Rattle.x509_der.specs.Arcs.{AreArcs, dotted, subidentifier}
use Rattle.x509_der.specs.ObjectIdentifier.{is_object_identifier}
use Rattle.x509_name.specs.AttributeNames.{Key, attribute_names}
use Rattle.x509_name.specs.Keys.{key_named, key_of, first_where, is_named, has_octets}
use Rattle.x509_name.proofs.DottedTexts.{IsDottedOctet, first_dotted}
use Rattle.x509_name.proofs.Printed.{or_tells}

-- ---- what is found

module _ {X : Type 0} (test : X → Bool) where
  pub found_passes : (xs : List X) (x : X) → first_where test xs ≡ Some x → test x ≡ true
  found_passes [] x e = absurd cc
  found_passes (y ∷ ys) x e = elim (cases_Bool (test y)) [
    | inl is ↦ let found : y ≡ x = some_is y x (rw is at e) in subst (λ (z : X). test z ≡ true) found is
    | inr not ↦ found_passes ys x (rw not at e)
  ]
    where
      some_is : (a b : X) → Some a ≡ Some b → a ≡ b
      some_is a b h = cc

  -- two functions that agree along the list agree at what is found
  pub found_agrees : {Y : Type 0} (f g : X → Y) (xs : List X) (x : X) → first_where test xs ≡ Some x → map f xs ≡ map g xs → f x ≡ g x
  found_agrees f g [] x e same = absurd cc
  found_agrees f g (y ∷ ys) x e same = elim (cases_Bool (test y)) [
    | inl is ↦ let found : y ≡ x = some_is y x (rw is at e) in subst (λ (z : X). f z ≡ g z) found (first same)
    | inr not ↦ found_agrees f g ys x (rw not at e) (others same)
  ]
    where
      some_is : (a b : X) → Some a ≡ Some b → a ≡ b
      some_is a b h = cc

      first : f y ∷ map f ys ≡ g y ∷ map g ys → f y ≡ g y
      first h = cc

      others : f y ∷ map f ys ≡ g y ∷ map g ys → map f ys ≡ map g ys
      others h = cc

-- ---- the rows

names_again : map (λ key. key_named key.name) attribute_names ≡ map Some attribute_names
unfolding attribute_names key_named
names_again = refl

are_identifiers : map (λ key. is_object_identifier key.octets) attribute_names ≡ map (λ key. true) attribute_names
unfolding attribute_names subidentifier
are_identifiers = refl

-- names are printed in capital letters
are_capitals : map (λ key. list_all is_ascii_uppercase key.name) attribute_names ≡ map (λ key. true) attribute_names
unfolding attribute_names
are_capitals = refl

-- both names begin with a letter
pub begins_with_letter : List ℕ → Bool
begins_with_letter name = leb 97 (slice_index (str_to_ascii_lowercase name) 0)

begin_with_letters : map (λ key. begins_with_letter key.name && begins_with_letter key.full_name) attribute_names ≡ map (λ key. true) attribute_names
unfolding attribute_names begins_with_letter
begin_with_letters = refl

-- ---- a row that is found by its octets

module _ (octets : List ℕ) (key : Key) (found : key_of octets ≡ Some key) where
  found_by_octets : first_where (has_octets octets) attribute_names ≡ Some key
  unfolding key_of
  found_by_octets = found

  pub octets_of_key : key.octets ≡ octets
  octets_of_key = (bytes_eq-Decides key.octets octets).0 (found_passes (has_octets octets) attribute_names key found_by_octets)

  pub named_again : key_named key.name ≡ Some key
  named_again = found_agrees (has_octets octets) (λ k. key_named k.name) Some attribute_names key found_by_octets names_again

  pub name_is_capitals : list_all is_ascii_uppercase key.name ≡ true
  name_is_capitals = found_agrees (has_octets octets) (λ k. list_all is_ascii_uppercase k.name) (λ k. true) attribute_names key found_by_octets are_capitals

letter_apart : (octet : ℕ) (rest : List ℕ) → IsDottedOctet octet → begins_with_letter (octet ∷ rest) ≡ true → ⊥
unfolding begins_with_letter
letter_apart octet rest h letter = absurd (grind (arith, nat_tests))

-- ---- a row that is found by a name

module _ (text : List ℕ) (key : Key) (found : key_named text ≡ Some key) where
  found_by_name : first_where (is_named text) attribute_names ≡ Some key
  unfolding key_named
  found_by_name = found

  pub identifier_of_key : is_object_identifier key.octets ≡ true
  identifier_of_key = found_agrees (is_named text) (λ k. is_object_identifier k.octets) (λ k. true) attribute_names key found_by_name are_identifiers

  same_letter : (name : List ℕ) → begins_with_letter name ≡ true → str_eq_ignore_ascii_case name text ≡ true → begins_with_letter text ≡ true
  unfolding begins_with_letter
  same_letter name begins same =
      let equal = (bytes_eq-Decides (str_to_ascii_lowercase name) (str_to_ascii_lowercase text)).0 same in
      subst (λ (low : List ℕ). leb 97 (slice_index low 0) ≡ true) equal begins

  pub letter_first : begins_with_letter text ≡ true
  letter_first =
      let both = and_parts (begins_with_letter key.name) (begins_with_letter key.full_name)
      (found_agrees (is_named text) (λ k. begins_with_letter k.name && begins_with_letter k.full_name) (λ k. true) attribute_names key found_by_name begin_with_letters) in
      elim (or_tells (str_eq_ignore_ascii_case key.name text) (str_eq_ignore_ascii_case key.full_name text) (found_passes (is_named text) attribute_names key found_by_name)) [
        | inl short ↦ same_letter key.name both.0 short
        | inr long ↦ same_letter key.full_name both.1 long
      ]

  -- no name is a dotted identifier
  pub not_dotted : (arcs : List ℕ) → AreArcs arcs → text ≡ dotted arcs → ⊥
  not_dotted arcs are is =
      let first = first_dotted arcs text are is in
      letter_apart first.0 first.1 first.3 (subst (λ (t : List ℕ). begins_with_letter t ≡ true) first.2 letter_first)
