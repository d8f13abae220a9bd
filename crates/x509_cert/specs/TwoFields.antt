-- What is written of a struct two fields of which are written by functions of their own.
use Rattle.std.specs.Prelude.{◌≡◌, None, refl}
use Rattle.x509_der.specs.StableLaws.{first_none}
use Rattle.x509_der.specs.Writing.{Writing, respelling, writes, first, IsStable}

-- Writing begins at the end, so the refusal of the later field comes first.
abbrev pub with_two_fields : {X Y Z : Type 0} → (X → Y) → (X → Z) → (X → Y → Z → X) → Writing Y → Writing Z → Writing X
with_two_fields get_earlier get_later put earlier later = respelling (λ x. record {
  value = put x (writes earlier (get_earlier x)).value (writes later (get_later x)).value;
  refusal = first (writes later (get_later x)).refusal (writes earlier (get_earlier x)).refusal;
})

-- what is written once more is as it was, where it is so of both fields
pub with_two_fields_stable : {X Y Z : Type 0} {good : X → Type 0} {earlier_good : Y → Type 0} {later_good : Z → Type 0}
    (get_earlier : X → Y) (get_later : X → Z) (put : X → Y → Z → X) (earlier : Writing Y) (later : Writing Z)
    → ((x : X) (y : Y) (z : Z) → get_earlier (put x y z) ≡ y)
    → ((x : X) (y : Y) (z : Z) → get_later (put x y z) ≡ z)
    → ((x : X) (y v : Y) (z w : Z) → put (put x y z) v w ≡ put x v w)
    → ((x : X) → good x → earlier_good (get_earlier x))
    → ((x : X) → good x → later_good (get_later x))
    → ((x : X) (y : Y) (z : Z) → good x → earlier_good y → later_good z → good (put x y z))
    → IsStable earlier_good earlier → IsStable later_good later → IsStable good (with_two_fields get_earlier get_later put earlier later)
with_two_fields_stable get_earlier get_later put earlier later got_earlier got_later last earlier_field later_field whole earlier_stable later_stable = record {
  kept = λ x g free.
      let each = first_none _ _ free in
      whole x _ _ g (earlier_stable.kept (get_earlier x) (earlier_field x g) each.1) (later_stable.kept (get_later x) (later_field x g) each.0);
  again = λ x g free.
      let each = first_none _ _ free in
      let y = (writes earlier (get_earlier x)).value in
      let z = (writes later (get_later x)).value in
      rw (got_earlier x y z, got_later x y z, earlier_stable.again (get_earlier x) (earlier_field x g) each.1, later_stable.again (get_later x) (later_field x g) each.0, last x y y z z) refl;
}

-- where each of the two fields is written as it is, so is the struct
pub with_two_fields_stays : {X Y Z : Type 0} (get_earlier : X → Y) (get_later : X → Z) (put : X → Y → Z → X) (earlier : Writing Y) (later : Writing Z) (x : X)
    → writes earlier (get_earlier x) ≡ record { value = get_earlier x; refusal = None } → writes later (get_later x) ≡ record { value = get_later x; refusal = None }
    → put x (get_earlier x) (get_later x) ≡ x → writes (with_two_fields get_earlier get_later put earlier later) x ≡ record { value = x; refusal = None }
with_two_fields_stays get_earlier get_later put earlier later x earlier_stays later_stays same = rw (earlier_stays, later_stays, same) refl
