-- CHOICE: the element of one of its cases, told apart by their identifier octets (X.690 8.13). A choice of two; more
-- cases nest.
use Rattle.std.specs.Prelude.{◌≡◌, ℕ, true, ◌⊎◌, List, ◌++◌, Result, Ok, Err, if◌then◌else◌, refl}
use Rattle.std.proofs.Common.{ap, sym, ◌∙◌, subst, inl, inr}
use Rattle.std.proofs.lemmas.Bool.{cases_Bool}
use Rattle.x509_der.specs.declared.error.ErrorKind.{ErrorKind}
use Rattle.x509_der.specs.declared.error.ErrorKind.TheVariants.{Malformed}
use Rattle.x509_der.specs.Outcome.{◌>>=◌}
use Rattle.x509_der.specs.OutcomeLaws.{ok_is, bind_ok, bind_err}
use Rattle.x509_der.specs.Element.{is_identifier}
use Rattle.x509_der.specs.Form.{Form, IsForm, is_in}
use Rattle.x509_der.specs.Frames.{are_apart}
use Rattle.x509_der.specs.FrameLaws.{apart_at, in_left, in_right}

abbrev pub pick : {X Y Z : Type 0} → (X → Z) → (Y → Z) → X ⊎ Y → Z
pick f g (inl x) = f x
pick f g (inr y) = g y

-- what holds of a value by its case
abbrev pub Case : {X Y : Type 0} → (X → Type 0) → (Y → Type 0) → X ⊎ Y → Type 0
Case p q (inl x) = p x
Case p q (inr y) = q y

unfoldable pub by_case : {X Y Z E : Type 0} → (E → X ⊎ Y) → (X → Z) → (Y → Z) → E → Z
by_case to f g v = pick f g (to v)

unfoldable pub either_good : {X Y E : Type 0} → (E → X ⊎ Y) → (X → Type 0) → (Y → Type 0) → E → Type 0
either_good to p q v = Case p q (to v)

unfoldable pub either_reading : {X Y E : Type 0} → (X ⊎ Y → E) → List ℕ → (ℕ → List ℕ → Result X ErrorKind) → (ℕ → List ℕ → Result Y ErrorKind) → ℕ → List ℕ → Result E ErrorKind
either_reading from starts f g t c = if is_in t starts then (f t c >>= λ x. Ok (from (inl x))) else (g t c >>= λ y. Ok (from (inr y)))

abbrev pub either : {X Y E : Type 0} → (E → X ⊎ Y) → (X ⊎ Y → E) → Form X → Form Y → Form E
either to from f g = record {
  tag = by_case to f.tag g.tag;
  content = by_case to f.content g.content;
  good = either_good to f.good g.good;
  starts = f.starts ++ g.starts;
  reading = either_reading from f.starts f.reading g.reading;
}

case_is : {X Y Z E : Type 0} (to : E → X ⊎ Y) (f : X → Z) (g : Y → Z) (v : E) (w : X ⊎ Y) → to v ≡ w → by_case to f g v ≡ pick f g w
unfolding by_case
case_is to f g v w e = ap (pick f g) e

good_from : {X Y E : Type 0} (to : E → X ⊎ Y) (p : X → Type 0) (q : Y → Type 0) (v : E) (w : X ⊎ Y) → to v ≡ w → Case p q w → either_good to p q v
unfolding either_good
good_from to p q v w e h = subst (Case p q) (sym e) h

good_to : {X Y E : Type 0} (to : E → X ⊎ Y) (p : X → Type 0) (q : Y → Type 0) (v : E) → either_good to p q v → Case p q (to v)
unfolding either_good
good_to to p q v h = h

module _ {X Y E : Type 0} {R : ErrorKind → Type 0} (to : E → X ⊎ Y) (from : X ⊎ Y → E) (f : Form X) (g : Form Y) (hf : IsForm R f) (hg : IsForm R g) where
  case_sound : ((x : X ⊎ Y) → to (from x) ≡ x) → (t : ℕ) (c : List ℕ) (v : E) → either_reading from f.starts f.reading g.reading t c ≡ Ok v → (either to from f g).good v × (t ≡ (either to from f g).tag v) × (c ≡ (either to from f g).content v)
  unfolding either_reading
  case_sound there t c v e =
      elim (cases_Bool (is_in t f.starts)) [
        | inl here ↦
            let e2 = rw here at e in
            let b = bind_ok (f.reading t c) (λ x. Ok (from (inl x))) v e2 in
            let s = hf.sound t c b.0 b.1 in
            let is : to v ≡ inl b.0 = ap to (sym (ok_is (from (inl b.0)) v b.2)) ∙ there (inl b.0) in
            (good_from to f.good g.good v (inl b.0) is s.0, s.1 ∙ sym (case_is to f.tag g.tag v (inl b.0) is), s.2 ∙ sym (case_is to f.content g.content v (inl b.0) is))
        | inr other ↦
            let e2 = rw other at e in
            let b = bind_ok (g.reading t c) (λ x. Ok (from (inr x))) v e2 in
            let s = hg.sound t c b.0 b.1 in
            let is : to v ≡ inr b.0 = ap to (sym (ok_is (from (inr b.0)) v b.2)) ∙ there (inr b.0) in
            (good_from to f.good g.good v (inr b.0) is s.0, s.1 ∙ sym (case_is to f.tag g.tag v (inr b.0) is), s.2 ∙ sym (case_is to f.content g.content v (inr b.0) is))
      ]

  case_complete : are_apart f.starts g.starts ≡ true → (w : X ⊎ Y) → Case f.good g.good w → either_reading from f.starts f.reading g.reading (pick f.tag g.tag w) (pick f.content g.content w) ≡ Ok (from w)
  unfolding either_reading
  case_complete apart (inl x) good = rw ((hf.tagged x good).0, hf.complete x good) refl
  case_complete apart (inr y) good = rw (apart_at (g.tag y) f.starts g.starts apart (hg.tagged y good).0, hg.complete y good) refl

  case_refused : (t : ℕ) (c : List ℕ) (e : ErrorKind) → either_reading from f.starts f.reading g.reading t c ≡ Err e → (e ≡ Malformed) ⊎ R e
  unfolding either_reading
  case_refused t c e r =
      elim (cases_Bool (is_in t f.starts)) [
        | inl here ↦
            let r2 = rw here at r in
            elim (bind_err (f.reading t c) (λ x. Ok (from (inl x))) e r2) [ inl k ↦ hf.refused t c e k | inr k ↦ absurd (let x = k.2 in cc) ]
        | inr other ↦
            let r2 = rw other at r in
            elim (bind_err (g.reading t c) (λ x. Ok (from (inr x))) e r2) [ inl k ↦ hg.refused t c e k | inr k ↦ absurd (let x = k.2 in cc) ]
      ]

  case_tagged : (w : X ⊎ Y) → Case f.good g.good w → (is_in (pick f.tag g.tag w) (f.starts ++ g.starts) ≡ true) × (is_identifier (pick f.tag g.tag w) ≡ true)
  case_tagged (inl x) good = (in_left (f.tag x) f.starts g.starts (hf.tagged x good).0, (hf.tagged x good).1)
  case_tagged (inr y) good = (in_right (g.tag y) f.starts g.starts (hg.tagged y good).0, (hg.tagged y good).1)

pub either_lawful : {X Y E : Type 0} {R : ErrorKind → Type 0} (to : E → X ⊎ Y) (from : X ⊎ Y → E) (f : Form X) (g : Form Y) → ((v : E) → from (to v) ≡ v) → ((x : X ⊎ Y) → to (from x) ≡ x) → are_apart f.starts g.starts ≡ true → IsForm R f → IsForm R g → IsForm R (either to from f g)
either_lawful to from f g back there apart hf hg = record {
  sound = case_sound to from f g hf hg there;
  complete = λ v good. rw (case_is to f.tag g.tag v (to v) refl, case_is to f.content g.content v (to v) refl) (case_complete to from f g hf hg apart (to v) (good_to to f.good g.good v good) ∙ rw (back v) refl);
  refused = case_refused to from f g hf hg;
  tagged = λ v good. rw (case_is to f.tag g.tag v (to v) refl) (case_tagged to from f g hf hg (to v) (good_to to f.good g.good v good));
}
