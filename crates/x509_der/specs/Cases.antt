-- CHOICE as a table of its cases: the element of one of them, told apart by their identifier octets (X.690 8.13).
use Rattle.std.specs.Prelude.{◌≡◌, ℕ, zero, suc, Bool, true, ◌&&◌, ◌⊎◌, List, [], ◌++◌, Result, Ok, Err, if◌then◌else◌, refl}
use Rattle.std.proofs.Common.{sym, subst, inl, inr}
use Rattle.std.proofs.lemmas.Bool.{cases_Bool, and_parts}
use Rattle.x509_der.specs.declared.error.ErrorKind.{ErrorKind}
use Rattle.x509_der.specs.declared.error.ErrorKind.TheVariants.{Malformed}
use Rattle.x509_der.specs.Outcome.{◌>>=◌}
use Rattle.x509_der.specs.OutcomeLaws.{ok_is, bind_ok, bind_err}
use Rattle.x509_der.specs.Element.{is_identifier}
use Rattle.x509_der.specs.Form.{Form, IsForm, is_in}
use Rattle.x509_der.specs.Frames.{are_apart}
use Rattle.x509_der.specs.FrameLaws.{apart_at, in_left, in_right}

-- ---- the table

-- one case: how a value is made of what stands in it, and the form of that
pub record OneCase (E : Type 0) : Type 1 where
  pub X : Type 0
  pub make : X → E
  pub form : Form X

infix 4 ◌holds◌
abbrev pub ◌holds◌ : {X E : Type 0} → (X → E) → Form X → OneCase E
make holds form = record { X = _; make = make; form = form }

infixr 3 ◌∥◌
pub data Cases (E : Type 0) : Type 1 where
  none : Cases E
  ◌∥◌ : OneCase E → Cases E → Cases E

-- the value is of the case with this number, from 0 on
abbrev pub IsOfCase : {E : Type 0} → Cases E → ℕ → E → Type 0
IsOfCase none n v = ⊥
IsOfCase (first ∥ cases) zero v = (x : first.X) × (first.make x ≡ v)
IsOfCase (first ∥ cases) (suc n) v = IsOfCase cases n v

-- which case a value is of, and what stands in it
abbrev pub CaseOf : {E : Type 0} → Cases E → E → Type 0
CaseOf cases v = (n : ℕ) × IsOfCase cases n v

-- ---- the form

-- what a form says of a value
pub record Said : Type 1 where
  pub tag : ℕ
  pub content : List ℕ
  pub good : Type 0

abbrev pub said_by : {X : Type 0} → Form X → X → Said
said_by form x = record { tag = form.tag x; content = form.content x; good = form.good x }

abbrev pub said_in : {E : Type 0} (cases : Cases E) (n : ℕ) (v : E) → IsOfCase cases n v → Said
said_in none n v is = absurd is
said_in (first ∥ cases) zero v is = said_by first.form is.0
said_in (first ∥ cases) (suc n) v is = said_in cases n v is

abbrev pub said_of : {E : Type 0} (cases : Cases E) → ((v : E) → CaseOf cases v) → E → Said
said_of cases case_of v = said_in cases (case_of v).0 v (case_of v).1

unfoldable pub choice_tag : {E : Type 0} (cases : Cases E) → ((v : E) → CaseOf cases v) → E → ℕ
choice_tag cases case_of v = (said_of cases case_of v).tag

unfoldable pub choice_content : {E : Type 0} (cases : Cases E) → ((v : E) → CaseOf cases v) → E → List ℕ
choice_content cases case_of v = (said_of cases case_of v).content

unfoldable pub choice_good : {E : Type 0} (cases : Cases E) → ((v : E) → CaseOf cases v) → E → Type 0
choice_good cases case_of v = (said_of cases case_of v).good

abbrev pub all_starts : {E : Type 0} → Cases E → List ℕ
all_starts none = []
all_starts (first ∥ cases) = first.form.starts ++ all_starts cases

abbrev pub reading_in : {E : Type 0} → Cases E → ℕ → List ℕ → Result E ErrorKind
reading_in none t c = Err Malformed
reading_in (first ∥ cases) t c = if is_in t first.form.starts then (first.form.reading t c >>= λ x. Ok (first.make x)) else reading_in cases t c

unfoldable pub choice_reading : {E : Type 0} → Cases E → ℕ → List ℕ → Result E ErrorKind
choice_reading cases t c = reading_in cases t c

-- the element of the case that the value is of
abbrev pub choice : {E : Type 0} (cases : Cases E) → ((v : E) → CaseOf cases v) → Form E
choice cases case_of = record {
  tag = choice_tag cases case_of;
  content = choice_content cases case_of;
  good = choice_good cases case_of;
  starts = all_starts cases;
  reading = choice_reading cases;
}

-- ---- its law

-- no two cases have an identifier octet in common
abbrev pub all_apart : {E : Type 0} → Cases E → Bool
all_apart none = true
all_apart (first ∥ cases) = are_apart first.form.starts (all_starts cases) && all_apart cases

-- each case holds what a lawful form is of, and its values are said by that form
abbrev pub AreLawful : {E : Type 0} → (ErrorKind → Type 0) → (E → Said) → Cases E → Type 1
AreLawful R said none = Unit {1}
AreLawful R said (first ∥ cases) = (IsForm R first.form × ((x : first.X) → said (first.make x) ≡ said_by first.form x)) × AreLawful R said cases

-- what reading wants of a value
abbrev Answers : ℕ → List ℕ → Said → Type 0
Answers t c said = said.good × (t ≡ said.tag) × (c ≡ said.content)

module _ {E : Type 0} (R : ErrorKind → Type 0) (said : E → Said) where
  cases_sound : (cases : Cases E) → AreLawful R said cases → (t : ℕ) (c : List ℕ) (v : E) → reading_in cases t c ≡ Ok v → Answers t c (said v)
  cases_sound none h t c v e = absurd (let k = e in cc)
  cases_sound (first ∥ cases) h t c v e =
      elim (cases_Bool (is_in t first.form.starts)) [
        | inl here ↦
            let read = bind_ok (first.form.reading t c) (λ x. Ok (first.make x)) v (rw here at e) in
            let answers : Answers t c (said_by first.form read.0) = h.0.0.sound t c read.0 read.1 in
            subst (λ w. Answers t c (said w)) (ok_is (first.make read.0) v read.2) (subst (Answers t c) (sym (h.0.1 read.0)) answers)
        | inr other ↦ cases_sound cases h.1 t c v (rw other at e)
      ]

  cases_refused : (cases : Cases E) → AreLawful R said cases → (t : ℕ) (c : List ℕ) (e : ErrorKind) → reading_in cases t c ≡ Err e → (e ≡ Malformed) ⊎ R e
  cases_refused none h t c e r = inl (let k : Malformed ≡ e = cc in sym k)
  cases_refused (first ∥ cases) h t c e r =
      elim (cases_Bool (is_in t first.form.starts)) [
        | inl here ↦ elim (bind_err (first.form.reading t c) (λ x. Ok (first.make x)) e (rw here at r)) [ inl k ↦ h.0.0.refused t c e k | inr k ↦ absurd (let x = k.2 in cc) ]
        | inr other ↦ cases_refused cases h.1 t c e (rw other at r)
      ]

  cases_tagged : (cases : Cases E) → AreLawful R said cases → (n : ℕ) (v : E) (is : IsOfCase cases n v) → (said_in cases n v is).good → (is_in (said_in cases n v is).tag (all_starts cases) ≡ true) × (is_identifier (said_in cases n v is).tag ≡ true)
  cases_tagged none h n v is good = absurd is
  cases_tagged (first ∥ cases) h zero v is good =
      let tagged = h.0.0.tagged is.0 good in
      (in_left (first.form.tag is.0) first.form.starts (all_starts cases) tagged.0, tagged.1)
  cases_tagged (first ∥ cases) h (suc n) v is good =
      let tagged = cases_tagged cases h.1 n v is good in
      (in_right (said_in cases n v is).tag first.form.starts (all_starts cases) tagged.0, tagged.1)

  cases_complete : (cases : Cases E) → AreLawful R said cases → all_apart cases ≡ true → (n : ℕ) (v : E) (is : IsOfCase cases n v) → (said_in cases n v is).good → reading_in cases (said_in cases n v is).tag (said_in cases n v is).content ≡ Ok v
  cases_complete none h apart n v is good = absurd is
  cases_complete (first ∥ cases) h apart zero v is good = rw ((h.0.0.tagged is.0 good).0, h.0.0.complete is.0 good, is.1) refl
  cases_complete (first ∥ cases) h apart (suc n) v is good =
      let parts = and_parts (are_apart first.form.starts (all_starts cases)) (all_apart cases) apart in
      let tagged = cases_tagged cases h.1 n v is good in
      rw (apart_at (said_in cases n v is).tag first.form.starts (all_starts cases) parts.0 tagged.0) (cases_complete cases h.1 parts.1 n v is good)

pub choice_lawful : {E : Type 0} {R : ErrorKind → Type 0} (cases : Cases E) (case_of : (v : E) → CaseOf cases v) → all_apart cases ≡ true → AreLawful R (said_of cases case_of) cases → IsForm R (choice cases case_of)
unfolding choice_tag choice_content choice_good choice_reading
choice_lawful {E} {R} cases case_of apart h = record {
  sound = cases_sound R (said_of cases case_of) cases h;
  complete = λ v good. cases_complete R (said_of cases case_of) cases h apart (case_of v).0 v (case_of v).1 good;
  refused = cases_refused R (said_of cases case_of) cases h;
  tagged = λ v good. cases_tagged R (said_of cases case_of) cases h (case_of v).0 v (case_of v).1 good;
}
