-- The contents of numbers with names are read as they are written, and their byte order.
use Rattle.std.specs.Prelude.{◌≡◌, ℕ, ◌^◌, ◌<◌, Bool, true, nat_eq, nat_lt, List, [], ◌∷◌, Option, Some, None, Ok, Err, refl}
use Rattle.std.specs.List.{list_all}
use Rattle.std.proofs.Common.{sym, ap, subst, ◌∙◌, inl, inr}
use Rattle.std.proofs.lemmas.Bool.{cases_Bool, and_parts, eqb-true, ltb-true}
use Rattle.x509_der.specs.declared.error.ErrorKind.{ErrorKind}
use Rattle.x509_der.specs.declared.error.ErrorKind.TheVariants.{Malformed}
use Rattle.x509_der.specs.declared.tag.Tag.{Tag}
use Rattle.x509_der.specs.OutcomeLaws.{ok_is, bind_ok, bind_err}
use Rattle.x509_der.specs.Form.{IsForm, IsContents}
use Rattle.x509_der.specs.FormLaws.{universal_lawful}
use Rattle.x509_der.specs.Natural.{natural_contents, natural_octets, natural_reading}
use Rattle.x509_der.specs.NaturalLaws.{u8_contents_lawful}
use Rattle.x509_der.specs.Writing.{Written}
use Rattle.x509_der.specs.Order.{Order, IsOrder}
use Rattle.x509_der.specs.Ordered.{by_bytes, by_bytes_lawful}
use Rattle.x509_prim.specs.Names.{with_number, Names, named, value_or_malformed, named_reading, named_contents, named_form}

-- ---- names

-- a value that is found has the number that was looked for, and what holds of all values
module _ {T : Type 0} (number : T → ℕ) (test : T → Bool) where
  found_at : (values : List T) (n : ℕ) (value : T) → list_all test values ≡ true → with_number number values n ≡ Some value → (number value ≡ n) × (test value ≡ true)
  found_at [] n value all e = absurd cc
  found_at (first ∷ values) n value all e =
      let parts = and_parts (test first) (list_all test values) all in
      elim (cases_Bool (nat_eq (number first) n)) [
        | inl here ↦ subst (λ (v : T). (number v ≡ n) × (test v ≡ true)) (some_is first value (rw here at e)) (eqb-true (number first) n here, parts.0)
        | inr other ↦ found_at values n value parts.1 (rw other at e)
      ]
    where
      some_is : (x y : T) → Some x ≡ Some y → x ≡ y
      some_is x y e = cc

pub named_number : {T : Type 0} (names : Names T) (n : ℕ) (value : T) → named names n ≡ Some value → names.number value ≡ n
named_number names n value e = (found_at names.number (λ v. nat_lt (names.number v) 256) names.values n value names.small e).0

pub number_small : {T : Type 0} (names : Names T) (value : T) → names.number value < 256
number_small names value = ltb-true (names.number value) 256 (found_at names.number (λ v. nat_lt (names.number v) 256) names.values (names.number value) value names.small (names.found value)).1

-- ---- contents

value_is : {T : Type 0} (found : Option T) (value : T) → value_or_malformed found ≡ Ok value → found ≡ Some value
value_is None value e = absurd cc
value_is (Some x) value e = cc

refusal_is : {T : Type 0} (found : Option T) (e : ErrorKind) → value_or_malformed found ≡ Err e → e ≡ Malformed
refusal_is None e h = cc
refusal_is (Some x) e h = absurd cc

module _ {T : Type 0} (names : Names T) where
  named_sound : (bytes : List ℕ) (value : T) → named_reading names bytes ≡ Ok value → Unit {0} × (bytes ≡ natural_octets (names.number value))
  unfolding named_reading
  named_sound bytes value e =
      let a = bind_ok (natural_reading (2 ^ 8) bytes) (λ n. value_or_malformed (named names n)) value e in
      let is : names.number value ≡ a.0 = named_number names a.0 value (value_is (named names a.0) value a.2) in
      let law : IsContents (λ _. ⊥) (natural_contents (2 ^ 8)) = u8_contents_lawful in
      (tt, rw is (law.sound bytes a.0 a.1).1)

  named_complete : (value : T) → Unit {0} → named_reading names (natural_octets (names.number value)) ≡ Ok value
  unfolding named_reading
  named_complete value good =
      let law : IsContents (λ _. ⊥) (natural_contents (2 ^ 8)) = u8_contents_lawful in
      rw (law.complete (names.number value) (number_small names value), names.found value) refl

  named_refused : (bytes : List ℕ) (e : ErrorKind) → named_reading names bytes ≡ Err e → e ≡ Malformed
  unfolding named_reading
  named_refused bytes e h =
      let law : IsContents (λ _. ⊥) (natural_contents (2 ^ 8)) = u8_contents_lawful in
      elim (bind_err (natural_reading (2 ^ 8) bytes) (λ n. value_or_malformed (named names n)) e h) [
        | inl k ↦ elim (law.refused bytes e k) [ inl j ↦ j | inr j ↦ absurd j ]
        | inr k ↦ refusal_is (named names k.0) e k.2
      ]

pub named_contents_lawful : {T : Type 0} {R : ErrorKind → Type 0} (names : Names T) → IsContents R (named_contents names)
named_contents_lawful names = record { sound = named_sound names; complete = named_complete names; refused = λ bytes e r. inl (named_refused names bytes e r) }

pub named_lawful : {T : Type 0} {R : ErrorKind → Type 0} (tag : Tag) (names : Names T) → IsForm R (named_form tag names)
named_lawful tag names = universal_lawful tag (named_contents names) (named_contents_lawful names)

-- ---- order

abbrev pub named_order : {T : Type 0} → Tag → Names T → Order T
named_order tag names = by_bytes (named_form tag names)

one_content : {T : Type 0} (names : Names T) (v w : T) → natural_octets (names.number v) ≡ natural_octets (names.number w) → v ≡ w
one_content names v w e =
    let law : IsContents (λ _. ⊥) (named_contents names) = named_contents_lawful names in
    ok_is v w (sym (law.complete v tt) ∙ ap (named_reading names) e ∙ law.complete w tt)

pub named_ordered : {T : Type 0} (tag : Tag) (names : Names T) (write : T → Written T) → IsOrder (named_form tag names) write (named_order tag names)
named_ordered tag names write = by_bytes_lawful (named_form tag names) write (λ x y p q. one_content names x y q)
