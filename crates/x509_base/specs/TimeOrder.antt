-- The byte order of times (X.690 11.6).
use Rattle.std.specs.Prelude.{◌≡◌, ℕ, List, [], ◌∷◌, slice_index, refl}
use Rattle.std.proofs.Common.{ap, sym, ◌∙◌, arith}
use Rattle.std.specs.Ordering.{on}
use Rattle.std.proofs.lemmas.Cmp.{nat_list_cmp_total, on_total}
use Rattle.std.proofs.lemmas.Map.Lookups.{exact_bytes}
use Rattle.x509_der.specs.declared.error.ErrorKind.{ErrorKind}
use Rattle.x509_der.specs.Element.{element, length_octets}
use Rattle.x509_der.specs.Form.{Form, IsForm}
use Rattle.x509_der.specs.OutcomeLaws.{ok_is}
use Rattle.x509_der.specs.Writing.{Written, plain, writes}
use Rattle.x509_der.specs.Order.{bytes_cmp, HasEncoding, Order, IsOrder}
use Rattle.x509_der.specs.Ordered.{by_key, by_key_lawful}
use Rattle.x509_base.specs.CivilTime.{CivilTime, IsDateTime}
use Rattle.x509_der.specs.Choice as choice
use Rattle.x509_base.specs.TimeText as texts
use Rattle.x509_base.specs.TimeText.{utc_time_octets, generalized_time_octets}
use Rattle.x509_base.specs.TimeReading.{IsUtcTime}
use Rattle.x509_base.specs.TimeForms.{utc_time, generalized_time}
use Rattle.x509_base.specs.Time.{time, time_lawful, date_time_of}
use Rattle.x509_base.specs.declared.time.Time.{Time}
use Rattle.x509_base.specs.declared.time.Time.TheVariants.{UtcTime, GeneralTime}
use Rattle.x509_der.specs.PartOrder.{BeginsSo}

-- the numbers of a date-time
abbrev pub numbers_of : CivilTime → List ℕ
numbers_of c = c.year ∷ c.month ∷ c.day ∷ c.hour ∷ c.minutes ∷ c.seconds ∷ []

-- by the content octets; the numbers tell apart what is no date-time
abbrev pub time_order : Order Time
time_order = by_key time (λ t. numbers_of (date_time_of t)) bytes_cmp

same_numbers : (c d : CivilTime) → numbers_of c ≡ numbers_of d → c ≡ d
same_numbers c d e =
    let at : (k : ℕ) → slice_index (numbers_of c) k ≡ slice_index (numbers_of d) k = λ k. ap (λ numbers. slice_index numbers k) e in
    λ i. record { year = at 0 i; month = at 1 i; day = at 2 i; hour = at 3 i; minutes = at 4 i; seconds = at 5 i }

tag_of : Time → ℕ
tag_of (UtcTime c) = 0x17
tag_of (GeneralTime c) = 0x18

tag_is : (t : Time) → time.tag t ≡ tag_of t
unfolding choice.by_case tag_of
tag_is (UtcTime c) = refl
tag_is (GeneralTime c) = refl

-- one identifier octet and one date-time: one time
one_tag : (t u : Time) → tag_of t ≡ tag_of u → date_time_of t ≡ date_time_of u → t ≡ u
unfolding tag_of
one_tag (UtcTime c) (UtcTime d) e h = ap UtcTime h
one_tag (UtcTime c) (GeneralTime d) e h = absurd (let two = e in omega (arith, two))
one_tag (GeneralTime c) (UtcTime d) e h = absurd (let two = e in omega (arith, two))
one_tag (GeneralTime c) (GeneralTime d) e h = ap GeneralTime h

same_time : (t u : Time) → time.tag t ≡ time.tag u → date_time_of t ≡ date_time_of u → t ≡ u
same_time t u e h = one_tag t u (sym (tag_is t) ∙ e ∙ tag_is u) h

-- the octets say which of the two it is
same_tag : (t u : Time) → time.good t → time.good u → time.content t ≡ time.content u → time.tag t ≡ time.tag u
unfolding choice.by_case texts.utc_time_octets texts.generalized_time_octets
same_tag (UtcTime c) (UtcTime d) p q e = refl
same_tag (UtcTime c) (GeneralTime d) p q e = absurd cc
same_tag (GeneralTime c) (UtcTime d) p q e = absurd cc
same_tag (GeneralTime c) (GeneralTime d) p q e = refl

one_time : (t u : Time) → time.good t → time.good u → time.content t ≡ time.content u → t ≡ u
one_time t u p q e =
    let h : IsForm (λ (e : ErrorKind). ⊥) time = time_lawful in
    ok_is t u (sym (h.complete t p) ∙ ap (λ tag. time.reading tag (time.content t)) (same_tag t u p q e) ∙ ap (λ content. time.reading (time.tag u) content) e ∙ h.complete u q)

pub time_ordered : (write : Time → Written Time) → IsOrder time write time_order
time_ordered write = by_key_lawful time write (λ t. numbers_of (date_time_of t)) bytes_cmp nat_list_cmp_total
    (λ t u tags contents e. same_time t u tags (same_numbers (date_time_of t) (date_time_of u) (exact_bytes _ _ e)))
    (λ t u p q e. ap (λ v. numbers_of (date_time_of v)) (one_time t u p.0 q.0 e))

has_encoding : (t : Time) → time.good t → HasEncoding time (writes plain) t
unfolding element length_octets choice.by_case texts.utc_time_octets texts.generalized_time_octets
has_encoding (UtcTime c) g = (g, refl, omega arith)
has_encoding (GeneralTime c) g = (g, refl, omega arith)

-- ---- times of one type, in the order of all times

abbrev pub as_times : (CivilTime → Time) → Order CivilTime
as_times case = on case time_order

case_ordered : (form : Form CivilTime) (case : CivilTime → Time) → ((c : CivilTime) → date_time_of (case c) ≡ c) → ((c : CivilTime) → time.tag (case c) ≡ form.tag c)
    → ((c : CivilTime) → time.content (case c) ≡ form.content c) → ((c : CivilTime) → form.good c → time.good (case c)) → IsOrder form (writes plain) (as_times case)
case_ordered form case back tags contents good =
    let times = time_ordered (writes plain) in
    record {
      total = on_total case times.total;
      agrees = λ c d p q. times.agrees (case c) (case d) (has_encoding (case c) (good c p.0)) (has_encoding (case d) (good d q.0)) ∙ ap (λ octets. bytes_cmp octets (time.content (case d))) (contents c) ∙ ap (bytes_cmp (form.content c)) (contents d);
      exact = λ c d same e. sym (back c) ∙ ap date_time_of (times.exact (case c) (case d) (tags c ∙ same ∙ sym (tags d)) e) ∙ back d;
    }

pub utc_time_ordered : IsOrder utc_time (writes plain) (as_times UtcTime)
unfolding choice.by_case choice.either_good
utc_time_ordered = case_ordered utc_time UtcTime (λ c. refl) (λ c. refl) (λ c. refl) (λ c good. good)

pub generalized_time_ordered : IsOrder generalized_time (writes plain) (as_times GeneralTime)
unfolding choice.by_case choice.either_good
generalized_time_ordered = case_ordered generalized_time GeneralTime (λ c. refl) (λ c. refl) (λ c. refl) (λ c good. good)

-- ---- contents

-- a time with an encoding, and its content octets
abbrev pub HasContent : Time → List ℕ → Type 0
HasContent t content = time.good t × (content ≡ time.content t)

pub utc_time_has : (c : CivilTime) (content : List ℕ) → IsUtcTime c → content ≡ utc_time_octets c → HasContent (UtcTime c) content
unfolding choice.by_case choice.either_good
utc_time_has c content g e = (g, e)

pub generalized_time_has : (c : CivilTime) (content : List ℕ) → IsDateTime c → content ≡ generalized_time_octets c → HasContent (GeneralTime c) content
unfolding choice.by_case choice.either_good
generalized_time_has c content g e = (g, e)

-- such times are in the order of their content octets
pub compared_contents : (t u : Time) (a b : List ℕ) → HasContent t a → HasContent u b → bytes_cmp a b ≡ time_order t u
compared_contents t u a b p q =
    let is = (time_ordered (writes plain)).agrees t u (has_encoding t p.0) (has_encoding u q.0) in
    rw (p.1, q.1) (sym is)

-- ---- times as fields

-- a time begins with one of the two identifier octets
pub time_begins : BeginsSo time
time_begins t good = let law : IsForm (λ _. ⊥) time = time_lawful in (law.tagged t good).0
