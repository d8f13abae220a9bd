-- The byte order of a sequence of two fields, of which the second may be one that can be left out.
use Rattle.std.specs.Prelude.{◌≡◌, ◌≤◌, ℕ, List, [], length, Option, Some, None, IfSome, refl}
use Rattle.std.specs.Option.{option_cmp}
use Rattle.std.specs.declared.cmp.Ordering.TheVariants.{Less, Equal, Greater}
use Rattle.std.specs.Cmp.Lexicographic.{options_total}
use Rattle.std.proofs.Common.{ap, sym, ◌∙◌, subst, append-nil}
use Rattle.std.proofs.lemmas.Cmp.{on_total, then_total}
use Rattle.x509_der.specs.declared.tag.Tag.TheVariants.{Sequence}
use Rattle.x509_der.specs.Element.{limit}
use Rattle.x509_der.specs.Form.{Form, universal, spelling}
use Rattle.x509_der.specs.Writing.{plain, writes}
use Rattle.x509_der.specs.Order.{HasEncoding, Order, IsOrder, IsDerOrder, bytes_cmp, der_order}
use Rattle.x509_der.specs.OrderLaws.{part_length, then_both, joined_cmp, nothing_first, nothing_last}
use Rattle.x509_der.specs.Ordered.{der_lawful, by_fields, by_fields_lawful}
use Rattle.x509_der.specs.Frames.{required, optional, optional_octets, ◌⊗◌, fields, fields_octets, fields_good}

-- by the element of the first field, then by that of the second
abbrev pub by_two : {X A B : Type 0} → (X → A × B) → Form A → Order A → Form B → Order B → Order X
by_two to f order_f g order_g = by_fields (λ x. (to x).0) (der_order f (writes plain) order_f) (λ x. (to x).1) (der_order g (writes plain) order_g)

both : {A B : Type 0} (p q : A × B) → p.0 ≡ q.0 → p.1 ≡ q.1 → p ≡ q
both p q e f = λ i. (e i, f i)

pub two_ordered : {X A B : Type 0} (to : X → A × B) (from : A × B → X) (f : Form A) (order_f : Order A) (g : Form B) (order_g : Order B) → ((x : X) → from (to x) ≡ x)
    → IsOrder f (writes plain) order_f → IsOrder g (writes plain) order_g → IsOrder (universal Sequence (fields to from (required f ⊗ required g))) (writes plain) (by_two to f order_f g order_g)
unfolding fields_octets fields_good
two_ordered to from f order_f g order_g back h k =
    by_fields_lawful (universal Sequence (fields to from (required f ⊗ required g))) (writes plain) (λ x. (to x).0) (λ x. (to x).1)
    (λ x y p q. sym (back x) ∙ ap from (both (to x) (to y) p q) ∙ back y) (λ x. refl)
    (λ x e. let l = part_length 48 (spelling f (to x).0) (spelling g (to x).1) limit e.2 in ((e.0.0, refl, l.0), (e.0.1, refl, l.1)))
    (der_lawful f (writes plain) order_f h) (der_lawful g (writes plain) order_g k)

-- ---- a required field, and behind it one that may be left out

-- by the element of the first field, then by the second, where nothing stands before an element
abbrev pub by_last_optional : {X A B : Type 0} → (X → A × Option B) → Form A → Order A → Form B → Order B → Order X
by_last_optional to f order_f g order_g = by_fields (λ x. (to x).0) (der_order f (writes plain) order_f) (λ x. (to x).1) (option_cmp (der_order g (writes plain) order_g))

module _ {X : Type 0} {Has : X → Type 0} {text : X → List ℕ} {order : Order X} (o : IsDerOrder Has text order) where
  before_element : (x : X) → bytes_cmp [] (text x) ≡ Less
  before_element x = subst (λ (bytes : List ℕ). bytes_cmp [] bytes ≡ Less) (append-nil (text x)) (nothing_first (text x) [] (o.elements x))

  behind_nothing : (x : X) → bytes_cmp (text x) [] ≡ Greater
  behind_nothing x = subst (λ (bytes : List ℕ). bytes_cmp bytes [] ≡ Greater) (append-nil (text x)) (nothing_last (text x) [] (o.elements x))

  optional_agrees : (x y : Option X) → IfSome x Has → IfSome y Has → option_cmp order x y ≡ bytes_cmp (optional_octets text x) (optional_octets text y)
  optional_agrees None None p q = refl
  optional_agrees None (Some y) p q = sym (before_element y)
  optional_agrees (Some x) None p q = sym (behind_nothing x)
  optional_agrees (Some x) (Some y) p q = o.agrees x y p q

  optional_exact : (x y : Option X) → option_cmp order x y ≡ Equal → x ≡ y
  optional_exact None None e = refl
  optional_exact None (Some y) e = absurd cc
  optional_exact (Some x) None e = absurd cc
  optional_exact (Some x) (Some y) e = ap Some (o.exact x y e)

optional_has : {X : Type 0} (form : Form X) (x : Option X) → IfSome x form.good → length (optional_octets (spelling form) x) ≤ limit → IfSome x (HasEncoding form (writes plain))
optional_has form None good le = tt
optional_has form (Some x) good le = (good, refl, le)

pub last_optional_ordered : {X A B : Type 0} (to : X → A × Option B) (from : A × Option B → X) (f : Form A) (order_f : Order A) (g : Form B) (order_g : Order B) → ((x : X) → from (to x) ≡ x)
    → IsOrder f (writes plain) order_f → IsOrder g (writes plain) order_g → IsOrder (universal Sequence (fields to from (required f ⊗ optional g))) (writes plain) (by_last_optional to f order_f g order_g)
unfolding fields_octets fields_good
last_optional_ordered to from f order_f g order_g back h k =
    let a = der_lawful f (writes plain) order_f h in
    let b = der_lawful g (writes plain) order_g k in
    record {
      total = then_total (on_total (λ x. (to x).0) a.total) (on_total (λ x. (to x).1) (options_total b.total));
      agrees = λ x y p q.
          let l = part_length 48 (spelling f (to x).0) (optional_octets (spelling g) (to x).1) limit p.2 in
          let r = part_length 48 (spelling f (to y).0) (optional_octets (spelling g) (to y).1) limit q.2 in
          rw (a.agrees (to x).0 (to y).0 (p.0.0, refl, l.0) (q.0.0, refl, r.0), optional_agrees b (to x).1 (to y).1 (optional_has g (to x).1 p.0.1 l.1) (optional_has g (to y).1 q.0.1 r.1))
          (sym (joined_cmp (spelling f (to x).0) (spelling f (to y).0) (a.elements (to x).0) (a.elements (to y).0) (optional_octets (spelling g) (to x).1) (optional_octets (spelling g) (to y).1)));
      exact = λ x y p e.
          let ties = then_both _ _ e in
          sym (back x) ∙ ap from (both (to x) (to y) (a.exact (to x).0 (to y).0 ties.0) (optional_exact b (to x).1 (to y).1 ties.1)) ∙ back y;
    }
