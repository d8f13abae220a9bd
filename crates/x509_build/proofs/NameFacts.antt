-- What holds of names that are made of values.
use Rattle.std.proofs.Common.{◌≡◌, true, false, ◌∷◌, [], ◌++◌, List, ℕ, Some, refl, sym, ap, ◌∙◌, subst, inl, inr}
use Rattle.std.proofs.lemmas.Bool.{cases_Bool, not_from_false, or_cases, true≢false}
use Rattle.std.proofs.lemmas.Slice.Eq.{bytes_eq-Decides}
use Rattle.std.specs.List.{AllByRecursion}
use Rattle.std.specs.Prelude.{bytes_eq}
use Rattle.std.specs.List.Sorted.{IsStrictlySortedBy}
use Rattle.x509_build.specs.NameValues.{allows, directory_types, ia5_types, is_among, printable_types, wanted}
use Rattle.x509_der.specs.Arcs.{subidentifier}
use Rattle.x509_der.specs.declared.any.Any.{Any}
use Rattle.x509_name.proofs.NameTexts.{name_again}
use Rattle.x509_name.specs.AttributeNames.{Key}
use Rattle.x509_name.specs.Attributes.{ReadsBack, attribute_text, is_text, printed_key}
use Rattle.x509_name.specs.Escapes.{escaped}
use Rattle.x509_name.specs.Keys.{key_of}
use Rattle.x509_name.specs.NameText.{NameReads, RdnReadsBack, name_text, rdn_text}
use Rattle.x509_name.specs.TypeAndValue.{type_and_value_cmp}
use Rattle.x509_name.specs.declared.attr.type_and_value.AttributeTypeAndValue.{AttributeTypeAndValue}

-- ---- a text with escapes

module _ (key : Key) (text : List ℕ) (listed : key_of key.octets ≡ Some key) (is : is_text key.tag text ≡ true) where
  abbrev value : Any
  value = record { tag = key.tag; value = text }

  abbrev attribute : AttributeTypeAndValue
  attribute = record { oid = key.octets; value = value }

  printed : printed_key key.octets value ≡ Some key
  printed = rw is listed

  one_text : attribute_text key.octets value ≡ key.name ++ 61 ∷ escaped text
  unfolding attribute_text
  one_text = rw printed refl

  whole_text : name_text ((attribute ∷ []) ∷ []) ≡ key.name ++ 61 ∷ escaped text
  unfolding name_text rdn_text
  whole_text = one_text

  sorted : IsStrictlySortedBy type_and_value_cmp (attribute ∷ [])
  unfolding IsStrictlySortedBy
  sorted = (tt, tt)

  pub reads_escaped : ReadsBack key.octets value → NameReads (key.name ++ 61 ∷ escaped text) ((attribute ∷ []) ∷ [])
  reads_escaped reads_back =
      let back : RdnReadsBack (attribute ∷ []) = record { some = λ e. absurd (let f : (attribute ∷ []) ≡ [] = e in cc); each = (reads_back, tt); sorted = sorted } in
      subst (λ t. NameReads t ((attribute ∷ []) ∷ [])) whole_text (name_again ((attribute ∷ []) ∷ []) (back, tt))

-- ---- the string type that is given where none is told

-- a type is among no others where none of those that are listed with it is
among_no_others : (others listed : List (List ℕ)) (oid : List ℕ) → AllByRecursion (λ t. is_among others t ≡ false) listed → is_among listed oid ≡ true → is_among others oid ≡ false
among_no_others others [] oid apart among = absurd (true≢false (sym among))
among_no_others others (t ∷ ts) oid apart among =
    elim (or_cases (bytes_eq t oid) (is_among ts oid) among) [
      | inl same ↦ ap (is_among others) (sym ((bytes_eq-Decides t oid).0 same)) ∙ apart.0
      | inr further ↦ among_no_others others ts oid apart.1 further
    ]

printable_apart : AllByRecursion (λ t. is_among ia5_types t ≡ false) printable_types
unfolding ia5_types printable_types subidentifier
printable_apart = (refl, (refl, (refl, tt)))

ia5_apart : AllByRecursion (λ t. is_among directory_types t ≡ false) ia5_types
unfolding directory_types ia5_types subidentifier
ia5_apart = (refl, (refl, tt))

pub wanted_allowed : (oid : List ℕ) → allows oid (wanted oid) ≡ true
wanted_allowed oid = elim (cases_Bool (is_among printable_types oid)) [
  | inl printable ↦ rw printable (not_from_false (is_among ia5_types oid) (among_no_others ia5_types printable_types oid printable_apart printable))
  | inr other ↦ elim (cases_Bool (is_among ia5_types oid)) [
    | inl ia5 ↦ rw (other, ia5) (rw (other, among_no_others directory_types ia5_types oid ia5_apart ia5) refl)
    | inr neither ↦ rw (other, neither) (rw (other, neither) refl)
  ]
]
