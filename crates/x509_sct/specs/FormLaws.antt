-- The laws of the forms of fields.
use Rattle.std.proofs.Common.{◌≡◌, ℕ, zero, suc, ◌<◌, ◌≤◌, ◌^◌, ◌*◌, ◌⊎◌, false, inl, inr, List, [], ◌∷◌, ◌++◌, length, take, drop, Option, Some, None, Ok, Err, refl, sym, ap, subst, ◌∙◌, append_assoc, length-append, arith}
use Rattle.std.specs.Prelude.{nat_lt, nat_eq}
use Rattle.std.specs.Int.{bytes_high_first}
use Rattle.std.proofs.lemmas.Bool.{cases_Bool, eqb-true, ltb-true, ltb-false, lt-ltb, le-ltb}
use Rattle.std.proofs.lemmas.List.{take-append-drop, length-take-le}
use Rattle.std.proofs.Math.Seq.{take-append_seam, drop-append_seam}
use Rattle.x509_sct.specs.declared.tls.error.TlsError.{TlsError}
use Rattle.x509_sct.specs.declared.tls.error.TlsError.TheVariants.{EndOfStream, UnknownValue, InvalidVectorLength}
use Rattle.x509_sct.specs.Outcome.{◌>>=◌}
use Rattle.x509_sct.specs.FieldReading.{octets_at, number_of, number_at, name_of, named_or, name_at, counted_at, filled_or, filled_at, struct_at, case_at, select_at}
use Rattle.x509_sct.specs.Form.{Form, AreOctets, IsForm, IsShort, fixed, number, IsUnnamed, named, counted, filled, ◌⊗◌, struct, case_of, case_bytes, case_good, CaseFault, select}
use Rattle.x509_sct.specs.Steps.{ok_is, bind_ok, bind_err, octets_after, octets_front}

-- ---- fields that have no fields

not_short : (a b : ℕ) → nat_lt a b ≡ false → b ≤ a
not_short a b h = ltb-false a b h

pub taken : (k : ℕ) (input octets rest : List ℕ) → octets_at k input ≡ Ok (octets, rest) → (length octets ≡ k) × (input ≡ octets ++ rest)
unfolding octets_at
taken k input octets rest e =
    elim (cases_Bool (nat_lt (length input) k)) [
      | inl short ↦ absurd (let k = rw short at e in cc)
      | inr whole ↦
          let e2 = ok_is (take k input, drop k input) (octets, rest) (rw whole at e) in
          subst (λ (y : List ℕ × List ℕ). (length y.0 ≡ k) × (input ≡ y.0 ++ y.1)) e2 (length-take-le k input (not_short (length input) k whole), sym (take-append-drop k input))
    ]

retaken : (octets rest : List ℕ) → octets_at (length octets) (octets ++ rest) ≡ Ok (octets, rest)
unfolding octets_at
retaken octets rest = rw (le-ltb (length (octets ++ rest)) (length octets) (omega (arith, length-append octets rest)), take-append_seam octets rest, drop-append_seam octets rest) refl

short : (k : ℕ) (input : List ℕ) (e : TlsError) → octets_at k input ≡ Err e → IsShort k input e
unfolding octets_at
short k input e h =
    elim (cases_Bool (nat_lt (length input) k)) [
      | inl is ↦ (ltb-true (length input) k is, let l = rw is at h in let m : EndOfStream ≡ e = cc in sym m)
      | inr whole ↦ absurd (let l = rw whole at h in cc)
    ]

short_is : (k : ℕ) (input : List ℕ) (e : TlsError) → IsShort k input e → octets_at k input ≡ Err e
unfolding octets_at
short_is k input e h = rw (lt-ltb (length input) k h.0, h.1) refl

pub fixed_lawful : (k : ℕ) → IsForm (fixed k)
fixed_lawful k = record {
  sound = λ input octets rest o e. taken k input octets rest e;
  complete = λ octets rest good. subst (λ j. octets_at j (octets ++ rest) ≡ Ok (octets, rest)) good (retaken octets rest);
  faulty = λ input e o h. short k input e h;
  first = short_is k;
}

-- what holds of the numbers of k bytes
pub record IsNumber (k : ℕ) : Type 0 where
  pub size : (n : ℕ) → length (bytes_high_first k n) ≡ k
  pub back : (octets : List ℕ) (n : ℕ) → length octets ≡ k → AreOctets octets → n ≡ number_of k octets → bytes_high_first k n ≡ octets
  pub again : (n : ℕ) → n < 2 ^ (8 * k) → number_of k (bytes_high_first k n) ≡ n
  pub below : (octets : List ℕ) → length octets ≡ k → AreOctets octets → number_of k octets < 2 ^ (8 * k)

pub number_lawful : (k : ℕ) → IsNumber k → IsForm (number k)
unfolding number_at
number_lawful k is = record {
  sound = λ input n rest o e.
      let b = bind_ok (octets_at k input) (λ x. Ok (number_of k x.0, x.1)) (n, rest) e in
      let t = taken k input b.0.0 b.0.1 b.1 in
      let f : AreOctets b.0.0 = octets_front b.0.0 b.0.1 (subst AreOctets t.1 o) in
      subst (λ (y : ℕ × List ℕ). (y.0 < 2 ^ (8 * k)) × (input ≡ bytes_high_first k y.0 ++ y.1)) (ok_is (number_of k b.0.0, b.0.1) (n, rest) b.2)
      (is.below b.0.0 t.0 f, t.1 ∙ ap (λ (y : List ℕ). y ++ b.0.1) (sym (is.back b.0.0 (number_of k b.0.0) t.0 f refl)));
  complete = λ n rest good.
      let r : octets_at k (bytes_high_first k n ++ rest) ≡ Ok (bytes_high_first k n, rest) = subst (λ j. octets_at j (bytes_high_first k n ++ rest) ≡ Ok (bytes_high_first k n, rest)) (is.size n) (retaken (bytes_high_first k n) rest) in
      rw (r, is.again n good) refl;
  faulty = λ input e o h. elim (bind_err (octets_at k input) (λ x. Ok (number_of k x.0, x.1)) e h) [ inl j ↦ short k input e j | inr j ↦ absurd (let l = j.2 in cc) ];
  first = λ input e h. rw (short_is k input e h) refl;
}

-- ---- bytes with names

some_is : {E : Type 0} (x y : E) → Some x ≡ Some y → x ≡ y
some_is x y e = cc

-- what is found has the byte
name_byte : {E : Type 0} (byte : E → ℕ) (values : List E) (n : ℕ) (v : E) → name_of byte values n ≡ Some v → byte v ≡ n
name_byte byte [] n v e = absurd cc
name_byte byte (x ∷ xs) n v e =
    elim (cases_Bool (nat_eq n (byte x))) [
      | inl here ↦ let e2 = some_is x v (rw here at e) in ap byte (sym e2) ∙ sym (eqb-true n (byte x) here)
      | inr other ↦ name_byte byte xs n v (rw other at e)
    ]

none_found : {E : Type 0} (byte : E → ℕ) (values : List E) (n : ℕ) → ((v : E) → byte v ≡ n → ⊥) → (r : Option E) → name_of byte values n ≡ r → r ≡ None
none_found byte values n none None e = refl
none_found byte values n none (Some v) e = absurd (none v (name_byte byte values n v e))

named_ok : {E : Type 0} (found : Option E) (n : ℕ) (rest : List ℕ) (v : E) (after : List ℕ) → named_or found n rest ≡ Ok (v, after) → (found ≡ Some v) × (rest ≡ after)
named_ok None n rest v after e = absurd cc
named_ok (Some u) n rest v after e = let s = ok_is (u, rest) (v, after) e in (ap (λ (x : _ × List ℕ). Some x.0) s, ap (λ (x : _ × List ℕ). x.1) s)

named_err : {E : Type 0} (found : Option E) (n : ℕ) (rest : List ℕ) (e : TlsError) → named_or found n rest ≡ Err e → (found ≡ None) × (e ≡ UnknownValue n)
named_err None n rest e h = (refl, let k : UnknownValue n ≡ e = cc in sym k)
named_err (Some u) n rest e h = absurd cc

-- each value is found by its byte
abbrev pub AreNamed : {E : Type 0} → (E → ℕ) → List E → Type 0
AreNamed {E} byte values = (v : E) → name_of byte values (byte v) ≡ Some v

named_sound : {E : Type 0} (byte : E → ℕ) (values : List E) (input : List ℕ) (v : E) (rest : List ℕ) → name_at byte values input ≡ Ok (v, rest) → Unit {0} × (input ≡ byte v ∷ rest)
unfolding name_at
named_sound byte values [] v rest e = absurd (let k = e in cc)
named_sound byte values (n ∷ input) v rest e =
    let s = named_ok (name_of byte values n) n input v rest e in
    (tt, rw (name_byte byte values n v s.0, s.1) refl)

unnamed : {E : Type 0} (byte : E → ℕ) (values : List E) → AreNamed byte values → (n : ℕ) → name_of byte values n ≡ None → (v : E) → byte v ≡ n → ⊥
unnamed byte values each n none v same = let found = rw same at (each v) in let k = sym none ∙ found in absurd cc

named_faulty : {E : Type 0} (byte : E → ℕ) (values : List E) → AreNamed byte values → (input : List ℕ) (e : TlsError) → name_at byte values input ≡ Err e → IsUnnamed byte input e
unfolding name_at
named_faulty byte values each [] e h = let k : EndOfStream ≡ e = cc in sym k
named_faulty byte values each (n ∷ input) e h =
    let s = named_err (name_of byte values n) n input e h in
    (unnamed byte values each n s.0, s.1)

named_first : {E : Type 0} (byte : E → ℕ) (values : List E) (input : List ℕ) (e : TlsError) → IsUnnamed byte input e → name_at byte values input ≡ Err e
unfolding name_at
named_first byte values [] e h = rw h refl
named_first byte values (n ∷ input) e h = rw (none_found byte values n h.0 (name_of byte values n) refl, h.1) refl

pub named_lawful : {E : Type 0} (byte : E → ℕ) (values : List E) → AreNamed byte values → IsForm (named byte values)
unfolding name_at
named_lawful byte values each = record {
  sound = λ input v rest o e. named_sound byte values input v rest e;
  complete = λ v rest good. rw (each v) refl;
  faulty = λ input e o h. named_faulty byte values each input e h;
  first = named_first byte values;
}

-- ---- fields made of fields

pub counted_lawful : (count : Form ℕ) → IsForm count → IsForm (counted count)
unfolding counted_at
counted_lawful count is = record {
  sound = λ input x rest o e.
      let b = bind_ok (count.reading input) (λ n. octets_at n.0 n.1) (x, rest) e in
      let s = is.sound input b.0.0 b.0.1 o b.1 in
      let t = taken b.0.0 b.0.1 x rest b.2 in
      let front : input ≡ count.bytes b.0.0 ++ b.0.1 = s.1 in
      let whole : input ≡ (count.bytes b.0.0 ++ x) ++ rest = front ∙ ap (λ (y : List ℕ). count.bytes b.0.0 ++ y) t.1 ∙ sym (append_assoc (count.bytes b.0.0) x rest) in
      subst (λ n. count.good n × (input ≡ (count.bytes n ++ x) ++ rest)) (sym t.0) (s.0, whole);
  complete = λ x rest good. rw (append_assoc (count.bytes (length x)) x rest, is.complete (length x) (x ++ rest) good) (retaken x rest);
  faulty = λ input e o h.
      elim (bind_err (count.reading input) (λ n. octets_at n.0 n.1) e h) [
        | inl j ↦ inl (is.faulty input e o j)
        | inr j ↦ inr (record { value = j.0.0; rest = j.0.1; begins = is.sound input j.0.0 j.0.1 o j.1; behind = short j.0.0 j.0.1 e j.2 })
      ];
  first = λ input e. elim [
    | inl j ↦ rw (is.first input e j) refl
    | inr j ↦ rw (j.begins.1, is.complete j.value j.rest j.begins.0) (short_is j.value j.rest e j.behind)
  ];
}

pub pair_lawful : {X Y : Type 0} (p : Form X) (q : Form Y) → IsForm p → IsForm q → IsForm (p ⊗ q)
pair_lawful {X} {Y} p q hp hq = record {
  sound = λ input v rest o e.
      let a = bind_ok (p.reading input) (λ x. q.reading x.1 >>= λ y. Ok ((x.0, y.0), y.1)) (v, rest) e in
      let b = bind_ok (q.reading a.0.1) (λ y. Ok ((a.0.0, y.0), y.1)) (v, rest) a.2 in
      let s = hp.sound input a.0.0 a.0.1 o a.1 in
      let t = hq.sound a.0.1 b.0.0 b.0.1 (octets_after input (p.bytes a.0.0) a.0.1 s.1 o) b.1 in
      let front : input ≡ p.bytes a.0.0 ++ a.0.1 = s.1 in
      let joined : input ≡ (p.bytes a.0.0 ++ q.bytes b.0.0) ++ b.0.1 = front ∙ ap (λ (x : List ℕ). p.bytes a.0.0 ++ x) t.1 ∙ sym (append_assoc (p.bytes a.0.0) (q.bytes b.0.0) b.0.1) in
      subst (λ (x : (X × Y) × List ℕ). (p.good x.0.0 × q.good x.0.1) × (input ≡ (p.bytes x.0.0 ++ q.bytes x.0.1) ++ x.1)) (ok_is ((a.0.0, b.0.0), b.0.1) (v, rest) b.2) ((s.0, t.0), joined);
  complete = λ v rest g. rw (append_assoc (p.bytes v.0) (q.bytes v.1) rest, hp.complete v.0 (q.bytes v.1 ++ rest) g.0, hq.complete v.1 rest g.1) refl;
  faulty = λ input e o h.
      elim (bind_err (p.reading input) (λ x. q.reading x.1 >>= λ y. Ok ((x.0, y.0), y.1)) e h) [
        | inl j ↦ inl (hp.faulty input e o j)
        | inr j ↦
            let s = hp.sound input j.0.0 j.0.1 o j.1 in
            elim (bind_err (q.reading j.0.1) (λ y. Ok ((j.0.0, y.0), y.1)) e j.2) [
              | inl l ↦ inr (record { value = j.0.0; rest = j.0.1; begins = s; behind = hq.faulty j.0.1 e (octets_after input (p.bytes j.0.0) j.0.1 s.1 o) l })
              | inr l ↦ absurd (let m = l.2 in cc)
            ]
      ];
  first = λ input e. elim [
    | inl j ↦ rw (hp.first input e j) refl
    | inr j ↦ rw (j.begins.1, hp.complete j.value j.rest j.begins.0, hq.first j.rest e j.behind) refl
  ];
}

pub struct_lawful : {X Y : Type 0} (to : Y → X) (from : X → Y) (fields : Form X) → ((y : Y) → from (to y) ≡ y) → ((x : X) → to (from x) ≡ x) → IsForm fields → IsForm (struct to from fields)
unfolding struct_at
struct_lawful {X} {Y} to from p back there h = record {
  sound = λ input y rest o e.
      let a = bind_ok (p.reading input) (λ x. Ok (from x.0, x.1)) (y, rest) e in
      let s = h.sound input a.0.0 a.0.1 o a.1 in
      let same : (p.good (to (from a.0.0))) × (input ≡ p.bytes (to (from a.0.0)) ++ a.0.1) = rw (there a.0.0) s in
      subst (λ (x : Y × List ℕ). p.good (to x.0) × (input ≡ p.bytes (to x.0) ++ x.1)) (ok_is (from a.0.0, a.0.1) (y, rest) a.2) same;
  complete = λ y rest g. rw (h.complete (to y) rest g, back y) refl;
  faulty = λ input e o r. elim (bind_err (p.reading input) (λ x. Ok (from x.0, x.1)) e r) [ inl j ↦ h.faulty input e o j | inr j ↦ absurd (let l = j.2 in cc) ];
  first = λ input e f. rw (h.first input e f) refl;
}

-- ---- vectors of at least one byte

-- what holds of the vector that was read holds of the one that is given, which has a byte
filled_ok : (P : List ℕ × List ℕ → Type 0) (octets rest x after : List ℕ) → filled_or (octets, rest) ≡ Ok (x, after) → P (octets, rest) → (0 < length x) × P (x, after)
filled_ok P [] rest x after e h = absurd (let k = e in cc)
filled_ok P (octet ∷ octets) rest x after e h = subst (λ (y : List ℕ × List ℕ). (0 < length y.0) × P y) (ok_is (octet ∷ octets, rest) (x, after) e) (omega arith, h)

filled_err : (octets rest : List ℕ) (e : TlsError) → filled_or (octets, rest) ≡ Err e → (octets ≡ []) × (e ≡ InvalidVectorLength)
filled_err [] rest e h = (refl, let k : InvalidVectorLength ≡ e = cc in sym k)
filled_err (octet ∷ octets) rest e h = absurd (let k = h in cc)

filled_back : (octets rest : List ℕ) → 0 < length octets → filled_or (octets, rest) ≡ Ok (octets, rest)
filled_back [] rest h = absurd (omega arith)
filled_back (octet ∷ octets) rest h = refl

pub filled_lawful : (vector : Form (List ℕ)) → IsForm vector → IsForm (filled vector)
unfolding filled_at
filled_lawful vector is = record {
  sound = λ input x rest o e.
      let b = bind_ok (vector.reading input) filled_or (x, rest) e in
      let f = filled_ok (λ y. vector.good y.0 × (input ≡ vector.bytes y.0 ++ y.1)) b.0.0 b.0.1 x rest b.2 (is.sound input b.0.0 b.0.1 o b.1) in
      ((f.0, f.1.0), f.1.1);
  complete = λ x rest good. rw (is.complete x rest good.1) (filled_back x rest good.0);
  faulty = λ input e o h.
      elim (bind_err (vector.reading input) filled_or e h) [
        | inl j ↦ inl (is.faulty input e o j)
        | inr j ↦ inr (record { value = j.0.0; rest = j.0.1; begins = is.sound input j.0.0 j.0.1 o j.1; behind = filled_err j.0.0 j.0.1 e j.2 })
      ];
  first = λ input e. elim [
    | inl j ↦ rw (is.first input e j) refl
    | inr j ↦ rw (j.begins.1, is.complete j.value j.rest j.begins.0, j.behind.0, j.behind.1) refl
  ];
}

-- ---- cases that a number tells

case_sound : {X Y : Type 0} (p : Form X) (q : Form Y) → IsForm p → IsForm q → (n : ℕ) (input : List ℕ) (v : X ⊎ Y) (rest : List ℕ) → AreOctets input
    → case_at p.reading q.reading (n, input) ≡ Ok (v, rest) → (n ≡ case_of v) × (case_good p q v × (input ≡ case_bytes p q v ++ rest))
case_sound {X} {Y} p q hp hq zero input v rest o e =
    let a = bind_ok (p.reading input) (λ x. Ok (inl x.0, x.1)) (v, rest) e in
    subst (λ (z : (X ⊎ Y) × List ℕ). (0 ≡ case_of z.0) × (case_good p q z.0 × (input ≡ case_bytes p q z.0 ++ z.1))) (ok_is (inl a.0.0, a.0.1) (v, rest) a.2) (refl, hp.sound input a.0.0 a.0.1 o a.1)
case_sound {X} {Y} p q hp hq (suc zero) input v rest o e =
    let a = bind_ok (q.reading input) (λ y. Ok (inr y.0, y.1)) (v, rest) e in
    subst (λ (z : (X ⊎ Y) × List ℕ). (1 ≡ case_of z.0) × (case_good p q z.0 × (input ≡ case_bytes p q z.0 ++ z.1))) (ok_is (inr a.0.0, a.0.1) (v, rest) a.2) (refl, hq.sound input a.0.0 a.0.1 o a.1)
case_sound p q hp hq (suc (suc n)) input v rest o e = absurd (let k = e in cc)

case_back : {X Y : Type 0} (p : Form X) (q : Form Y) → IsForm p → IsForm q → (v : X ⊎ Y) (rest : List ℕ) → case_good p q v → case_at p.reading q.reading (case_of v, case_bytes p q v ++ rest) ≡ Ok (v, rest)
case_back p q hp hq (inl x) rest g = rw (hp.complete x rest g) refl
case_back p q hp hq (inr y) rest g = rw (hq.complete y rest g) refl

case_faulty : {X Y : Type 0} (p : Form X) (q : Form Y) → IsForm p → IsForm q → (n : ℕ) (input : List ℕ) (e : TlsError) → AreOctets input → case_at p.reading q.reading (n, input) ≡ Err e → CaseFault p q e n input
case_faulty p q hp hq zero input e o h = elim (bind_err (p.reading input) (λ x. Ok (inl x.0, x.1)) e h) [ inl j ↦ hp.faulty input e o j | inr j ↦ absurd (let k = j.2 in cc) ]
case_faulty p q hp hq (suc zero) input e o h = elim (bind_err (q.reading input) (λ y. Ok (inr y.0, y.1)) e h) [ inl j ↦ hq.faulty input e o j | inr j ↦ absurd (let k = j.2 in cc) ]
case_faulty p q hp hq (suc (suc n)) input e o h = let k : UnknownValue (suc (suc n)) ≡ e = cc in sym k

case_first : {X Y : Type 0} (p : Form X) (q : Form Y) → IsForm p → IsForm q → (n : ℕ) (input : List ℕ) (e : TlsError) → CaseFault p q e n input → case_at p.reading q.reading (n, input) ≡ Err e
case_first p q hp hq zero input e f = rw (hp.first input e f) refl
case_first p q hp hq (suc zero) input e f = rw (hq.first input e f) refl
case_first p q hp hq (suc (suc n)) input e f = rw f refl

pub select_lawful : {X Y : Type 0} (number : Form ℕ) (p : Form X) (q : Form Y) → IsForm number → IsForm p → IsForm q → IsForm (select number p q)
unfolding select_at
select_lawful {X} {Y} number p q is hp hq = record {
  sound = λ input v rest o e.
      let a = bind_ok (number.reading input) (case_at p.reading q.reading) (v, rest) e in
      let s = is.sound input a.0.0 a.0.1 o a.1 in
      let t = case_sound p q hp hq a.0.0 a.0.1 v rest (octets_after input (number.bytes a.0.0) a.0.1 s.1 o) a.2 in
      let front : input ≡ number.bytes a.0.0 ++ a.0.1 = s.1 in
      let whole : input ≡ (number.bytes a.0.0 ++ case_bytes p q v) ++ rest = front ∙ ap (λ (y : List ℕ). number.bytes a.0.0 ++ y) t.1.1 ∙ sym (append_assoc (number.bytes a.0.0) (case_bytes p q v) rest) in
      subst (λ n. (number.good n × case_good p q v) × (input ≡ (number.bytes n ++ case_bytes p q v) ++ rest)) t.0 ((s.0, t.1.0), whole);
  complete = λ v rest g. rw (append_assoc (number.bytes (case_of v)) (case_bytes p q v) rest, is.complete (case_of v) (case_bytes p q v ++ rest) g.0) (case_back p q hp hq v rest g.1);
  faulty = λ input e o h.
      elim (bind_err (number.reading input) (case_at p.reading q.reading) e h) [
        | inl j ↦ inl (is.faulty input e o j)
        | inr j ↦
            let s = is.sound input j.0.0 j.0.1 o j.1 in
            inr (record { value = j.0.0; rest = j.0.1; begins = s; behind = case_faulty p q hp hq j.0.0 j.0.1 e (octets_after input (number.bytes j.0.0) j.0.1 s.1 o) j.2 })
      ];
  first = λ input e. elim [
    | inl j ↦ rw (is.first input e j) refl
    | inr j ↦ rw (j.begins.1, is.complete j.value j.rest j.begins.0) (case_first p q hp hq j.value j.rest e j.behind)
  ];
}
