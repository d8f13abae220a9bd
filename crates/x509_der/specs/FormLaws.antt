-- What holds of every form.
use Rattle.std.proofs.Common.{◌≡◌, ℕ, true, eqb, ◌⊎◌, List, [], ◌∷◌, ◌++◌, Ok, Err, refl, sym, ◌∙◌, inl, inr}
use Rattle.std.proofs.lemmas.Bool.{eqb-true, eq-eqb, or_left}
use Rattle.std.proofs.lemmas.List.{append-nil}
use Rattle.x509_der.specs.declared.error.ErrorKind.{ErrorKind}
use Rattle.x509_der.specs.declared.error.ErrorKind.TheVariants.{Malformed}
use Rattle.x509_der.specs.declared.tag.Tag.{Tag}
use Rattle.x509_der.specs.OutcomeLaws.{bind_ok, bind_err, test_ok, test_err}
use Rattle.x509_der.specs.Element.{element, is_identifier}
use Rattle.x509_der.specs.ElementReading.{piece_at}
use Rattle.x509_der.specs.Tag.{octet_of}
use Rattle.x509_der.specs.TagLaws.{tag_is_identifier}
use Rattle.x509_der.specs.ElementLaws.{piece_at-sound, piece_at-whole, piece_at-refused}
use Rattle.x509_der.specs.Form.{is_in, is_empty, Form, spelling, IsForm, HasTag, Contents, IsContents, contents_of, alone, whole_reading, under, universal}

pub is_empty-true : (bytes : List ℕ) → is_empty bytes ≡ true → bytes ≡ []
is_empty-true [] h = refl
is_empty-true (b ∷ bytes) h = absurd cc

pub is_in-front : (t : ℕ) (ts : List ℕ) → is_in t (t ∷ ts) ≡ true
is_in-front t ts = or_left (eqb t t) (is_in t ts) (eq-eqb t t refl)

-- contents under one identifier octet
pub under_lawful : {X : Type 0} {R : ErrorKind → Type 0} (tag : ℕ) (c : Contents X) → is_identifier tag ≡ true → IsContents R c → IsForm R (under tag c)
under_lawful tag c identifier h = record {
  sound = λ t bytes v e.
      let g = test_ok (eqb t tag) Malformed (c.reading bytes) v e in
      let s = h.sound bytes v g.1 in
      (s.0, eqb-true t tag g.0, s.1);
  complete = λ v g. rw (eq-eqb tag tag refl) (h.complete v g);
  refused = λ t bytes e r. elim (test_err (eqb t tag) Malformed (c.reading bytes) e r) [ inl j ↦ h.refused bytes e j | inr j ↦ inl (sym j) ];
  tagged = λ v g. (is_in-front tag [], identifier);
}

-- contents under one identifier
pub universal_lawful : {X : Type 0} {R : ErrorKind → Type 0} (tag : Tag) (c : Contents X) → IsContents R c → IsForm R (universal tag c)
universal_lawful tag c h = under_lawful (octet_of tag) c (tag_is_identifier tag) h

pub contents_of_lawful : {X : Type 0} {R : ErrorKind → Type 0} (tag : ℕ) (f : Form X) → HasTag tag f → IsForm R f → IsContents R (contents_of tag f)
contents_of_lawful tag f fixed h = record {
  sound = λ bytes v e. let s = h.sound tag bytes v e in (s.0, s.2);
  complete = λ v g. rw (← fixed v) (h.complete v g);
  refused = λ bytes e r. h.refused tag bytes e r;
}

-- ---- one whole element

same_element : (bytes : List ℕ) (u t : ℕ) (d c rest : List ℕ) → bytes ≡ element u d ++ rest → u ≡ t → d ≡ c → rest ≡ [] → bytes ≡ element t c
same_element bytes u t d c rest e tag-is content-is rest-is = e ∙ rw (tag-is, content-is, rest-is) (append-nil (element t c))

pub whole_sound : {X : Type 0} {R : ErrorKind → Type 0} (f : Form X) (h : IsForm R f) (bytes : List ℕ) (v : X) → whole_reading f.reading bytes ≡ Ok v → f.good v × (bytes ≡ spelling f v)
unfolding whole_reading
whole_sound f h bytes v e =
    let b = bind_ok (piece_at bytes) (alone f.reading) v e in
    let p = b.0 in
    let g = test_ok (is_empty p.rest) Malformed (f.reading p.tag p.content) v b.2 in
    let k = piece_at-sound bytes p b.1 in
    let m = h.sound p.tag p.content v g.1 in
    let parts : bytes ≡ element p.tag p.content ++ p.rest = k.0 in
    let all : bytes ≡ spelling f v = same_element bytes p.tag (f.tag v) p.content (f.content v) p.rest parts m.1 m.2 (is_empty-true p.rest g.0) in
    (m.0, all)

pub whole_complete : {X : Type 0} {R : ErrorKind → Type 0} (f : Form X) (h : IsForm R f) (v : X) → f.good v → whole_reading f.reading (spelling f v) ≡ Ok v
unfolding whole_reading
whole_complete f h v g = rw (piece_at-whole (f.tag v) (f.content v) (h.tagged v g).1) (h.complete v g)

pub whole_refused : {X : Type 0} {R : ErrorKind → Type 0} (f : Form X) (h : IsForm R f) (bytes : List ℕ) (e : ErrorKind) → whole_reading f.reading bytes ≡ Err e → (e ≡ Malformed) ⊎ R e
unfolding whole_reading
whole_refused f h bytes e r =
    elim (bind_err (piece_at bytes) (alone f.reading) e r) [
      | inl k ↦ inl (piece_at-refused bytes e k)
      | inr k ↦ elim (test_err (is_empty k.0.rest) Malformed (f.reading k.0.tag k.0.content) e k.2) [
        | inl j ↦ h.refused k.0.tag k.0.content e j
        | inr j ↦ inl (sym j)
      ]
    ]
