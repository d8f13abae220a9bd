-- Frames of lawful types are lawful.
use Rattle.std.proofs.Common.{◌≡◌, ℕ, ◌+◌, ◌<◌, true, false, not, ◌||◌, eqb, ltb, ◌⊎◌, List, [], ◌∷◌, ◌++◌, Option, Some, None, Result, Ok, Err, refl, sym, ap, subst, ◌∙◌, append_assoc, inl, inr, arith}
use Rattle.std.specs.Prelude.{IfSome}
use Rattle.std.proofs.lemmas.Bool.{cases_Bool, eqb-true, ltb-true, and_parts, or_parts, or_left, or_right, not-true, true≢false}
use Rattle.std.proofs.lemmas.Bool.Decides.{nat_tests}
use Rattle.std.proofs.lemmas.List.{append-nil}
use Rattle.x509_der.specs.declared.error.ErrorKind.{ErrorKind}
use Rattle.x509_der.specs.declared.error.ErrorKind.TheVariants.{Malformed}
use Rattle.x509_der.specs.Outcome.{◌>>=◌}
use Rattle.x509_der.specs.OutcomeLaws.{ok_is, bind_ok, bind_err, guard_ok}
use Rattle.x509_der.specs.Element.{element, is_identifier, is_universal}
use Rattle.x509_der.specs.ElementReading.{piece_at}
use Rattle.x509_der.specs.ElementLaws.{piece_at-sound, piece_at-element, piece_at-refused}
use Rattle.x509_der.specs.Form.{is_in, Form, spelling, IsForm, IsContents, HasTag, contents_of, one_tag}
use Rattle.x509_der.specs.FormLaws.{under_lawful, contents_of_lawful, whole_sound, whole_complete, whole_refused}
use Rattle.x509_der.specs.Frames.{explicit_contents, explicit, implicit_tag, implicit, Part, IsPart, BeginsIn, nothing, begins, IsClearOf, are_apart, field_at, required, optional_octets, optional_at, optional, Default, IsDefault, default_of, default_at, defaulted, default_octets, ◌⊗◌, end_at, fields, fields_octets, fields_good, fields_reading}

-- ---- tags

explicit_identifier : (n : ℕ) → ltb n 31 ≡ true → is_identifier (160 + n) ≡ true
unfolding is_identifier is_universal
explicit_identifier n low = let lt : n < 31 = ltb-true n 31 low in grind (arith, nat_tests)

implicit_identifier : (n tag : ℕ) → ltb n 31 ≡ true → is_identifier (implicit_tag n tag) ≡ true
unfolding is_identifier is_universal
implicit_identifier n tag low = let lt : n < 31 = ltb-true n 31 low in grind (arith, nat_tests)

pub explicit_lawful : {X : Type 0} {R : ErrorKind → Type 0} (n : ℕ) (f : Form X) → ltb n 31 ≡ true → IsForm R f → IsForm R (explicit n f)
explicit_lawful n f low h = under_lawful (160 + n) (explicit_contents f) (explicit_identifier n low) (record { sound = whole_sound f h; complete = whole_complete f h; refused = whole_refused f h })

pub implicit_lawful : {X : Type 0} {R : ErrorKind → Type 0} (n : ℕ) (f : Form X) → ltb n 31 ≡ true → HasTag (one_tag f) f → IsForm R f → IsForm R (implicit n f)
implicit_lawful n f low fixed h = under_lawful (implicit_tag n (one_tag f)) (contents_of (one_tag f) f) (implicit_identifier n (one_tag f) low) (contents_of_lawful (one_tag f) f fixed h)

-- ---- a field

same_front : (u t : ℕ) (d c rest : List ℕ) → u ≡ t → d ≡ c → element u d ++ rest ≡ element t c ++ rest
same_front u t d c rest p q = rw (p, q) refl

pub field_sound : {X : Type 0} {R : ErrorKind → Type 0} (f : Form X) (h : IsForm R f) (bytes : List ℕ) (v : X) (rest : List ℕ) → field_at f.reading bytes ≡ Ok (v, rest) → f.good v × (bytes ≡ spelling f v ++ rest)
unfolding field_at
field_sound {X} f h bytes v rest e =
    let a = bind_ok (piece_at bytes) (λ p. f.reading p.tag p.content >>= λ v. Ok (v, p.rest)) (v, rest) e in
    let p = a.0 in
    let b = bind_ok (f.reading p.tag p.content) (λ v. Ok (v, p.rest)) (v, rest) a.2 in
    let s = h.sound p.tag p.content b.0 b.1 in
    let k = piece_at-sound bytes p a.1 in
    let parts : bytes ≡ element p.tag p.content ++ p.rest = k.0 in
    let all : bytes ≡ spelling f b.0 ++ p.rest = parts ∙ same_front p.tag (f.tag b.0) p.content (f.content b.0) p.rest s.1 s.2 in
    subst (λ (x : X × List ℕ). f.good x.0 × (bytes ≡ spelling f x.0 ++ x.1)) (ok_is (b.0, p.rest) (v, rest) b.2) (s.0, all)

pub field_complete : {X : Type 0} {R : ErrorKind → Type 0} (f : Form X) (h : IsForm R f) (v : X) (rest : List ℕ) → f.good v → field_at f.reading (spelling f v ++ rest) ≡ Ok (v, rest)
unfolding field_at
field_complete f h v rest g = rw (piece_at-element (f.tag v) (f.content v) rest (h.tagged v g).1, h.complete v g) refl

pub field_refused : {X : Type 0} {R : ErrorKind → Type 0} (f : Form X) (h : IsForm R f) (bytes : List ℕ) (e : ErrorKind) → field_at f.reading bytes ≡ Err e → (e ≡ Malformed) ⊎ R e
unfolding field_at
field_refused f h bytes e r =
    elim (bind_err (piece_at bytes) (λ p. f.reading p.tag p.content >>= λ v. Ok (v, p.rest)) e r) [
      | inl k ↦ inl (piece_at-refused bytes e k)
      | inr k ↦ elim (bind_err (f.reading k.0.tag k.0.content) (λ v. Ok (v, k.0.rest)) e k.2) [
        | inl j ↦ h.refused k.0.tag k.0.content e j
        | inr j ↦ absurd (let x = j.2 in cc)
      ]
    ]

pub form_front : {X : Type 0} {R : ErrorKind → Type 0} (f : Form X) (h : IsForm R f) (v : X) → f.good v → BeginsIn f.starts (spelling f v)
unfolding element
form_front f h v g = begins (f.tag v) _ (h.tagged v g).0

pub required_lawful : {X : Type 0} {R : ErrorKind → Type 0} (f : Form X) → IsForm R f → IsPart R (required f)
required_lawful f h = record {
  sound = field_sound f h;
  complete = λ v rest g clear. field_complete f h v rest g;
  refused = field_refused f h;
  front = form_front f h;
}

-- ---- an optional field

optional_sound : {X : Type 0} {R : ErrorKind → Type 0} (f : Form X) (h : IsForm R f) (bytes : List ℕ) (v : Option X) (rest : List ℕ) → optional_at f.starts f.reading bytes ≡ Ok (v, rest) → IfSome v f.good × (bytes ≡ optional_octets (spelling f) v ++ rest)
unfolding optional_at
optional_sound {X} f h [] v rest e =
    subst (λ (x : Option X × List ℕ). IfSome x.0 f.good × ([] ≡ optional_octets (spelling f) x.0 ++ x.1)) (ok_is (None, []) (v, rest) e) (tt, refl)
optional_sound {X} f h (t ∷ bytes) v rest e =
    elim (cases_Bool (is_in t f.starts)) [
      | inl there ↦
          let e2 = rw there at e in
          let b = bind_ok (field_at f.reading (t ∷ bytes)) (λ x. Ok (Some x.0, x.1)) (v, rest) e2 in
          let s = field_sound f h (t ∷ bytes) b.0.0 b.0.1 b.1 in
          subst (λ (x : Option X × List ℕ). IfSome x.0 f.good × (t ∷ bytes ≡ optional_octets (spelling f) x.0 ++ x.1)) (ok_is (Some b.0.0, b.0.1) (v, rest) b.2) s
      | inr absent ↦
          let e2 = rw absent at e in
          subst (λ (x : Option X × List ℕ). IfSome x.0 f.good × (t ∷ bytes ≡ optional_octets (spelling f) x.0 ++ x.1)) (ok_is (None, t ∷ bytes) (v, rest) e2) (tt, refl)
    ]

pub optional_none : {X : Type 0} (starts : List ℕ) (read : ℕ → List ℕ → Result X ErrorKind) (rest : List ℕ) → IsClearOf starts rest → optional_at starts read rest ≡ Ok (None, rest)
unfolding optional_at
optional_none starts read [] clear = refl
optional_none starts read (t ∷ rest) clear = rw clear refl

optional_some : {X : Type 0} (starts : List ℕ) (read : ℕ → List ℕ → Result X ErrorKind) (t : ℕ) (c rest : List ℕ) → is_in t starts ≡ true → optional_at starts read (element t c ++ rest) ≡ (field_at read (element t c ++ rest) >>= λ x. Ok (Some x.0, x.1))
unfolding optional_at element
optional_some starts read t c rest so = rw so refl

optional_complete : {X : Type 0} {R : ErrorKind → Type 0} (f : Form X) (h : IsForm R f) (v : Option X) (rest : List ℕ) → IfSome v f.good → IsClearOf f.starts rest → optional_at f.starts f.reading (optional_octets (spelling f) v ++ rest) ≡ Ok (v, rest)
optional_complete f h None rest g clear = optional_none f.starts f.reading rest clear
optional_complete f h (Some v) rest g clear = optional_some f.starts f.reading (f.tag v) (f.content v) rest (h.tagged v g).0 ∙ rw (field_complete f h v rest g) refl

optional_refused : {X : Type 0} {R : ErrorKind → Type 0} (f : Form X) (h : IsForm R f) (bytes : List ℕ) (e : ErrorKind) → optional_at f.starts f.reading bytes ≡ Err e → (e ≡ Malformed) ⊎ R e
unfolding optional_at
optional_refused f h [] e r = absurd cc
optional_refused f h (t ∷ bytes) e r =
    elim (cases_Bool (is_in t f.starts)) [
      | inl there ↦
          let e2 = rw there at r in
          elim (bind_err (field_at f.reading (t ∷ bytes)) (λ x. Ok (Some x.0, x.1)) e e2) [
            | inl k ↦ field_refused f h (t ∷ bytes) e k
            | inr k ↦ absurd (let x = k.2 in cc)
          ]
      | inr absent ↦ absurd (let e2 = rw absent at r in cc)
    ]

optional_front : {X : Type 0} {R : ErrorKind → Type 0} (f : Form X) (h : IsForm R f) (v : Option X) → IfSome v f.good → BeginsIn f.starts (optional_octets (spelling f) v)
optional_front f h None g = nothing
optional_front f h (Some v) g = form_front f h v g

pub optional_lawful : {X : Type 0} {R : ErrorKind → Type 0} (f : Form X) → IsForm R f → IsPart R (optional f)
optional_lawful f h = record {
  sound = optional_sound f h;
  complete = optional_complete f h;
  refused = optional_refused f h;
  front = optional_front f h;
}

-- ---- a field with a default

default_of-sound : {X : Type 0} (d : Default X) (v : Option X) (rest : List ℕ) (x : X) (after : List ℕ) → default_of d (v, rest) ≡ Ok (x, after) → (rest ≡ after) × (((v ≡ None) × (x ≡ d.default_value)) ⊎ ((v ≡ Some x) × (d.is_default x ≡ false)))
default_of-sound {X} d None rest x after e =
    let same = ok_is (d.default_value, rest) (x, after) e in
    (ap (λ (p : X × List ℕ). p.1) same, inl (refl, sym (ap (λ (p : X × List ℕ). p.0) same)))
default_of-sound {X} d (Some v) rest x after e =
    let g = guard_ok (d.is_default v) Malformed (Ok (v, rest)) (x, after) e in
    let same = ok_is (v, rest) (x, after) g.1 in
    let is : v ≡ x = ap (λ (p : X × List ℕ). p.0) same in
    let some : X → Option X = λ w. Some w in
    (ap (λ (p : X × List ℕ). p.1) same, inr (ap some is, subst (λ (w : X). d.is_default w ≡ false) is g.0))

default_sound : {X : Type 0} {R : ErrorKind → Type 0} (d : Default X) (k : IsDefault d) (f : Form X) (h : IsForm R f) (bytes : List ℕ) (v : X) (rest : List ℕ) → default_at d f.starts f.reading bytes ≡ Ok (v, rest) → ((d.is_default v ≡ true) ⊎ f.good v) × (bytes ≡ default_octets d (spelling f) v ++ rest)
unfolding default_at default_octets
default_sound {X} d k f h bytes v rest e =
    let b = bind_ok (optional_at f.starts f.reading bytes) (default_of d) (v, rest) e in
    let o = optional_sound f h bytes b.0.0 b.0.1 b.1 in
    let s = default_of-sound d b.0.0 b.0.1 v rest b.2 in
    let rest-is : b.0.1 ≡ rest = s.0 in
    elim s.1 [
      | inl absent ↦
          let none : b.0.0 ≡ None = absent.0 in
          let default_value : d.is_default v ≡ true = rw absent.1 k.same in
          (inl default_value, rw default_value (o.1 ∙ rw (none, rest-is) refl))
      | inr there ↦
          let some : b.0.0 ≡ Some v = there.0 in
          let other : d.is_default v ≡ false = there.1 in
          (inr (subst (λ (w : Option X). IfSome w f.good) some o.0), rw other (o.1 ∙ rw (some, rest-is) refl))
    ]

default_good : {X : Type 0} (d : Default X) (f : Form X) (v : X) → (d.is_default v ≡ true) ⊎ f.good v → d.is_default v ≡ false → f.good v
default_good d f v (inl default_value) other = absurd (true≢false (sym default_value ∙ other))
default_good d f v (inr g) other = g

default_complete : {X : Type 0} {R : ErrorKind → Type 0} (d : Default X) (k : IsDefault d) (f : Form X) (h : IsForm R f) (v : X) (rest : List ℕ) → (d.is_default v ≡ true) ⊎ f.good v → IsClearOf f.starts rest → default_at d f.starts f.reading (default_octets d (spelling f) v ++ rest) ≡ Ok (v, rest)
unfolding default_at default_octets
default_complete d k f h v rest g clear =
    elim (cases_Bool (d.is_default v)) [
      | inl default_value ↦ rw (default_value, optional_none f.starts f.reading rest clear, sym (k.only v default_value)) refl
      | inr other ↦ rw (other, optional_complete f h (Some v) rest (default_good d f v g other) clear, other) refl
    ]

default_of-refused : {X : Type 0} (d : Default X) (x : Option X × List ℕ) (e : ErrorKind) → default_of d x ≡ Err e → e ≡ Malformed
default_of-refused d (None, rest) e h = absurd cc
default_of-refused d (Some v, rest) e h = elim (cases_Bool (d.is_default v)) [ inl default_value ↦ (let x = rw default_value at h in cc) | inr other ↦ absurd (let x = rw other at h in cc) ]

default_refused : {X : Type 0} {R : ErrorKind → Type 0} (d : Default X) (f : Form X) (h : IsForm R f) (bytes : List ℕ) (e : ErrorKind) → default_at d f.starts f.reading bytes ≡ Err e → (e ≡ Malformed) ⊎ R e
unfolding default_at
default_refused d f h bytes e r =
    elim (bind_err (optional_at f.starts f.reading bytes) (default_of d) e r) [
      | inl k ↦ optional_refused f h bytes e k
      | inr k ↦ inl (default_of-refused d k.0 e k.2)
    ]

default_front : {X : Type 0} {R : ErrorKind → Type 0} (d : Default X) (f : Form X) (h : IsForm R f) (v : X) → (d.is_default v ≡ true) ⊎ f.good v → BeginsIn f.starts (default_octets d (spelling f) v)
unfolding default_octets
default_front d f h v g =
    elim (cases_Bool (d.is_default v)) [
      | inl default_value ↦ rw default_value nothing
      | inr other ↦ rw other (form_front f h v (default_good d f v g other))
    ]

pub defaulted_lawful : {X : Type 0} {R : ErrorKind → Type 0} (d : Default X) (f : Form X) → IsDefault d → IsForm R f → IsPart R (defaulted d f)
defaulted_lawful d f k h = record {
  sound = default_sound d k f h;
  complete = default_complete d k f h;
  refused = default_refused d f h;
  front = default_front d f h;
}

-- ---- identifier octets that two parts may begin with

is_in-append : (t : ℕ) (a b : List ℕ) → is_in t (a ++ b) ≡ (is_in t a || is_in t b)
is_in-append t [] b = refl
is_in-append t (s ∷ a) b = elim (cases_Bool (eqb t s)) [ inl same ↦ rw same refl | inr other ↦ rw other (is_in-append t a b) ]

pub in_left : (t : ℕ) (a b : List ℕ) → is_in t a ≡ true → is_in t (a ++ b) ≡ true
in_left t a b h = is_in-append t a b ∙ or_left (is_in t a) (is_in t b) h

pub in_right : (t : ℕ) (a b : List ℕ) → is_in t b ≡ true → is_in t (a ++ b) ≡ true
in_right t a b h = is_in-append t a b ∙ or_right (is_in t a) (is_in t b) h

in_neither : (t : ℕ) (a b : List ℕ) → is_in t (a ++ b) ≡ false → (is_in t a ≡ false) × (is_in t b ≡ false)
in_neither t a b h = or_parts (is_in t a) (is_in t b) (sym (is_in-append t a b) ∙ h)

pub apart_at : (t : ℕ) (a b : List ℕ) → are_apart a b ≡ true → is_in t b ≡ true → is_in t a ≡ false
apart_at t [] b h i = refl
apart_at t (s ∷ a) b h i =
    let p = and_parts (not (is_in s b)) (are_apart a b) h in
    let out : is_in s b ≡ false = not-true (is_in s b) p.0 in
    elim (cases_Bool (eqb t s)) [
      | inl same ↦ absurd (let is : t ≡ s = eqb-true t s same in true≢false (sym i ∙ rw is out))
      | inr other ↦ rw other (apart_at t a b p.1 i)
    ]

pub clear_left : (a b rest : List ℕ) → IsClearOf (a ++ b) rest → IsClearOf a rest
clear_left a b [] h = tt
clear_left a b (t ∷ rest) h = (in_neither t a b h).0

pub clear_right : (a b rest : List ℕ) → IsClearOf (a ++ b) rest → IsClearOf b rest
clear_right a b [] h = tt
clear_right a b (t ∷ rest) h = (in_neither t a b h).1

pub clear_before : (avoids starts text rest : List ℕ) → are_apart avoids starts ≡ true → BeginsIn starts text → IsClearOf avoids rest → IsClearOf avoids (text ++ rest)
clear_before avoids starts text rest apart nothing h = h
clear_before avoids starts text rest apart (begins t bytes i) h = apart_at t avoids starts apart i

pub begins_append : (a b x y : List ℕ) → BeginsIn a x → BeginsIn b y → BeginsIn (a ++ b) (x ++ y)
begins_append a b x y nothing nothing = nothing
begins_append a b x y nothing (begins t bytes i) = begins t bytes (in_right t a b i)
begins_append a b x y (begins t bytes i) other = begins t (bytes ++ y) (in_left t a b i)

-- ---- one part and another behind it

pair_sound : {X Y : Type 0} {R : ErrorKind → Type 0} (p : Part X) (q : Part Y) (hp : IsPart R p) (hq : IsPart R q) (bytes : List ℕ) (v : X × Y) (rest : List ℕ) → (p ⊗ q).reading bytes ≡ Ok (v, rest) → (p.good v.0 × q.good v.1) × (bytes ≡ (p.text v.0 ++ q.text v.1) ++ rest)
pair_sound {X} {Y} p q hp hq bytes v rest e =
    let a = bind_ok (p.reading bytes) (λ x. q.reading x.1 >>= λ y. Ok ((x.0, y.0), y.1)) (v, rest) e in
    let b = bind_ok (q.reading a.0.1) (λ y. Ok ((a.0.0, y.0), y.1)) (v, rest) a.2 in
    let same = ok_is ((a.0.0, b.0.0), b.0.1) (v, rest) b.2 in
    let s = hp.sound bytes a.0.0 a.0.1 a.1 in
    let t = hq.sound a.0.1 b.0.0 b.0.1 b.1 in
    let front : bytes ≡ p.text a.0.0 ++ a.0.1 = s.1 in
    let behind : a.0.1 ≡ q.text b.0.0 ++ b.0.1 = t.1 in
    let joined : bytes ≡ (p.text a.0.0 ++ q.text b.0.0) ++ b.0.1 = front ∙ ap (λ (x : List ℕ). p.text a.0.0 ++ x) behind ∙ sym (append_assoc (p.text a.0.0) (q.text b.0.0) b.0.1) in
    subst (λ (x : (X × Y) × List ℕ). (p.good x.0.0 × q.good x.0.1) × (bytes ≡ (p.text x.0.0 ++ q.text x.0.1) ++ x.1)) same ((s.0, t.0), joined)

pair_complete : {X Y : Type 0} {R : ErrorKind → Type 0} (p : Part X) (q : Part Y) (hp : IsPart R p) (hq : IsPart R q) → are_apart p.avoids q.starts ≡ true → (v : X × Y) (rest : List ℕ) → p.good v.0 × q.good v.1 → IsClearOf (p.avoids ++ q.avoids) rest → (p ⊗ q).reading ((p.text v.0 ++ q.text v.1) ++ rest) ≡ Ok (v, rest)
pair_complete p q hp hq apart v rest g clear =
    let front = hp.complete v.0 (q.text v.1 ++ rest) g.0 (clear_before p.avoids q.starts (q.text v.1) rest apart (hq.front v.1 g.1) (clear_left p.avoids q.avoids rest clear)) in
    let behind = hq.complete v.1 rest g.1 (clear_right p.avoids q.avoids rest clear) in
    rw (append_assoc (p.text v.0) (q.text v.1) rest, front, behind) refl

pair_refused : {X Y : Type 0} {R : ErrorKind → Type 0} (p : Part X) (q : Part Y) (hp : IsPart R p) (hq : IsPart R q) (bytes : List ℕ) (e : ErrorKind) → (p ⊗ q).reading bytes ≡ Err e → (e ≡ Malformed) ⊎ R e
pair_refused p q hp hq bytes e r =
    elim (bind_err (p.reading bytes) (λ x. q.reading x.1 >>= λ y. Ok ((x.0, y.0), y.1)) e r) [
      | inl k ↦ hp.refused bytes e k
      | inr k ↦ elim (bind_err (q.reading k.0.1) (λ y. Ok ((k.0.0, y.0), y.1)) e k.2) [
        | inl j ↦ hq.refused k.0.1 e j
        | inr j ↦ absurd (let x = j.2 in cc)
      ]
    ]

pub pair_lawful : {X Y : Type 0} {R : ErrorKind → Type 0} (p : Part X) (q : Part Y) → IsPart R p → IsPart R q → are_apart p.avoids q.starts ≡ true → IsPart R (p ⊗ q)
pair_lawful p q hp hq apart = record {
  sound = pair_sound p q hp hq;
  complete = pair_complete p q hp hq apart;
  refused = pair_refused p q hp hq;
  front = λ v g. begins_append p.starts q.starts (p.text v.0) (q.text v.1) (hp.front v.0 g.0) (hq.front v.1 g.1);
}

-- ---- the fields of a sequence

end_ok : {A : Type 0} (rest : List ℕ) (f : Unit → Result A ErrorKind) (y : A) → (end_at rest >>= f) ≡ Ok y → (rest ≡ []) × (f tt ≡ Ok y)
end_ok [] f y e = (refl, e)
end_ok (b ∷ rest) f y e = absurd cc

end_err : {A : Type 0} (rest : List ℕ) (f : Unit → Result A ErrorKind) (e : ErrorKind) → (end_at rest >>= f) ≡ Err e → (e ≡ Malformed) ⊎ (f tt ≡ Err e)
end_err [] f e h = inr h
end_err (b ∷ rest) f e h = inl (let k : Malformed ≡ e = cc in sym k)

pub fields_lawful : {X Y : Type 0} {R : ErrorKind → Type 0} (to : Y → X) (from : X → Y) (p : Part X) → ((y : Y) → from (to y) ≡ y) → ((x : X) → to (from x) ≡ x) → IsPart R p → IsContents R (fields to from p)
unfolding fields_octets fields_good fields_reading
fields_lawful {X} {Y} to from p back there h = record {
  sound = λ bytes v e.
      let a = bind_ok (p.reading bytes) (λ x. end_at x.1 >>= λ done. Ok (from x.0)) v e in
      let b = end_ok a.0.1 (λ done. Ok (from a.0.0)) v a.2 in
      let same : from a.0.0 ≡ v = ok_is (from a.0.0) v b.1 in
      let is : to v ≡ a.0.0 = ap to (sym same) ∙ there a.0.0 in
      let s = h.sound bytes a.0.0 a.0.1 a.1 in
      let nil : a.0.1 ≡ [] = b.0 in
      let parts : bytes ≡ p.text a.0.0 ++ a.0.1 = s.1 in
      let good : p.good (to v) = rw is s.0 in
      let all : bytes ≡ p.text (to v) = rw is (parts ∙ rw nil (append-nil (p.text a.0.0))) in
      (good, all);
  complete = λ v g.
      let c : p.reading (p.text (to v) ++ []) ≡ Ok (to v, []) = h.complete (to v) [] g tt in
      let d : p.reading (p.text (to v)) ≡ Ok (to v, []) = subst (λ (b : List ℕ). p.reading b ≡ Ok (to v, [])) (append-nil (p.text (to v))) c in
      rw (d, back v) refl;
  refused = λ bytes e r.
      elim (bind_err (p.reading bytes) (λ x. end_at x.1 >>= λ done. Ok (from x.0)) e r) [
        | inl k ↦ h.refused bytes e k
        | inr k ↦ elim (end_err k.0.1 (λ done. Ok (from k.0.0)) e k.2) [
          | inl j ↦ inl j
          | inr j ↦ absurd (let x = j in cc)
        ]
      ];
}

-- ---- bytes are those of one value of a part, and of one rest

pub one_part : {X : Type 0} {R : ErrorKind → Type 0} (p : Part X) → IsPart R p → (v w : X) (x y : List ℕ) → p.good v → p.good w → IsClearOf p.avoids x → IsClearOf p.avoids y → p.text v ++ x ≡ p.text w ++ y → (v ≡ w) × (x ≡ y)
one_part {X} p h v w x y good_v good_w clear_x clear_y e =
    let same : (v, x) ≡ (w, y) = ok_is (v, x) (w, y) (sym (h.complete v x good_v clear_x) ∙ ap p.reading e ∙ h.complete w y good_w clear_y) in
    (ap (λ (z : X × List ℕ). z.0) same, ap (λ (z : X × List ℕ). z.1) same)
