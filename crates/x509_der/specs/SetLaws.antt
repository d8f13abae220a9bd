-- Sets are read as they are spelled, and have an order.
use Rattle.std.specs.Prelude.{◌≡◌, true, false, List, [], ◌∷◌, Ok, refl}
use Rattle.std.specs.List.{AllByRecursion}
use Rattle.std.specs.List.Sorted.{IsStrictlySortedBy}
use Rattle.std.specs.Ordering.{is_lt}
use Rattle.std.specs.declared.cmp.Ordering.{Ordering}
use Rattle.std.specs.declared.cmp.Ordering.TheVariants.{Less, Equal, Greater}
use Rattle.std.proofs.Common.{inl, inr, sym, subst, ◌∙◌}
use Rattle.std.proofs.lemmas.Bool.{and_parts, cases_Bool, true≢false}
use Rattle.x509_der.specs.declared.error.ErrorKind.{ErrorKind}
use Rattle.x509_der.specs.declared.error.ErrorKind.TheVariants.{Malformed}
use Rattle.x509_der.specs.OutcomeLaws.{ok_is, bind_ok, bind_err, test_ok, test_err}
use Rattle.x509_der.specs.declared.tag.Tag.TheVariants.{Set}
use Rattle.x509_der.specs.Form.{Form, IsForm, IsContents, universal, spelling}
use Rattle.x509_der.specs.Writing.{Writing, writes}
use Rattle.x509_der.specs.Order.{Order, IsOrder, der_order}
use Rattle.x509_der.specs.Ordered.{der_lawful, by_members, by_members_lawful}
use Rattle.x509_der.specs.List.{joined, all_good, list_reading, members_writing}
use Rattle.x509_der.specs.ListLaws.{list_lawful}
use Rattle.x509_der.specs.ListOrder.{members_have_encodings}
use Rattle.x509_der.specs.Set.{is_below_all, is_rising, set_good, if_rising, set_reading, set_of}

pub is_less : (o : Ordering) → is_lt o ≡ true → o ≡ Less
is_less Less e = refl
is_less Equal e = absurd cc
is_less Greater e = absurd cc

below_all : {X : Type 0} (R : Order X) (x : X) (ys : List X) → is_below_all R x ys ≡ true → AllByRecursion (λ y. R x y ≡ Less) ys
unfolding is_below_all
below_all R x [] h = tt
below_all R x (y ∷ ys) h = let p = and_parts (is_lt (R x y)) (is_below_all R x ys) h in (is_less (R x y) p.0, below_all R x ys p.1)

all_above : {X : Type 0} (R : Order X) (x : X) (ys : List X) → AllByRecursion (λ y. R x y ≡ Less) ys → is_below_all R x ys ≡ true
unfolding is_below_all
all_above R x [] h = refl
all_above R x (y ∷ ys) h = rw (h.0, all_above R x ys h.1) refl

pub sorted_from_rising : {X : Type 0} (R : Order X) (xs : List X) → is_rising R xs ≡ true → IsStrictlySortedBy R xs
unfolding is_rising IsStrictlySortedBy
sorted_from_rising R [] h = tt
sorted_from_rising R (x ∷ xs) h = let p = and_parts (is_below_all R x xs) (is_rising R xs) h in (below_all R x xs p.0, sorted_from_rising R xs p.1)

pub rising_from_sorted : {X : Type 0} (R : Order X) (xs : List X) → IsStrictlySortedBy R xs → is_rising R xs ≡ true
unfolding is_rising IsStrictlySortedBy
rising_from_sorted R [] h = refl
rising_from_sorted R (x ∷ xs) h = rw (all_above R x xs h.0, rising_from_sorted R xs h.1) refl

pub not_rising : {X : Type 0} (R : Order X) (xs : List X) → ¬ IsStrictlySortedBy R xs → false ≡ is_rising R xs
not_rising R xs n = elim (cases_Bool (is_rising R xs)) [ inl y ↦ absurd (n (sorted_from_rising R xs y)) | inr f ↦ sym f ]

pub not_sorted : {X : Type 0} (R : Order X) (xs : List X) → is_rising R xs ≡ false → ¬ IsStrictlySortedBy R xs
not_sorted R xs e s = true≢false (sym (rising_from_sorted R xs s) ∙ e)

pub set_lawful : {X : Type 0} {Q : ErrorKind → Type 0} (f : Form X) (R : Order X) → IsForm Q f → IsContents Q (set_of f R)
unfolding set_reading set_good
set_lawful {X} f R h =
    let l = list_lawful f h in record {
      sound = λ bytes vs e.
          let b = bind_ok (list_reading f.reading bytes) (if_rising R) vs e in
          let g = test_ok (is_rising R b.0) Malformed (Ok b.0) vs b.2 in
          let s = l.sound bytes b.0 b.1 in
          subst (λ (xs : List X). (all_good f.good xs × IsStrictlySortedBy R xs) × (bytes ≡ joined (spelling f) xs)) (ok_is b.0 vs g.1) ((s.0, sorted_from_rising R b.0 g.0), s.1);
      complete = λ vs g. rw (l.complete vs g.0, rising_from_sorted R vs g.1) refl;
      refused = λ bytes e r.
          elim (bind_err (list_reading f.reading bytes) (if_rising R) e r) [
            | inl k ↦ l.refused bytes e k
            | inr k ↦ elim (test_err (is_rising R k.0) Malformed (Ok k.0) e k.2) [ inl j ↦ absurd (let x = j in cc) | inr j ↦ inl (sym j) ]
          ];
    }

pub set_ordered : {X : Type 0} (f : Form X) (w : Writing X) (order : Order X) → IsOrder f (writes w) order → IsOrder (universal Set (set_of f (der_order f (writes w) order))) (writes (members_writing w)) (by_members (der_order f (writes w) order))
unfolding joined set_good
set_ordered f w order h =
    by_members_lawful (der_lawful f (writes w) order h) (joined (spelling f)) refl (λ x xs. refl) (universal Set (set_of f (der_order f (writes w) order))) (writes (members_writing w)) (λ xs. refl)
    (λ xs e. members_have_encodings f w 0x31 xs e.0.0 e.1 e.2)
