-- What calls that read say, by the laws of the forms.
use Rattle.std.proofs.Common.{◌≡◌, ℕ, ◌<◌, ◌⊎◌, inl, inr, List, [], ◌∷◌, length, Result, Ok, Err, refl, sym, ap, ◌∙◌, arith}
use Rattle.std.specs.Prelude.{IfErr}
use Rattle.std.proofs.lemmas.List.{append-nil}
use Rattle.x509_sct.specs.declared.tls.error.TlsError.{TlsError}
use Rattle.x509_sct.specs.declared.tls.error.TlsError.TheVariants.{EndOfStream, UnknownValue, TrailingData, InvalidVectorLength, Memory}
use Rattle.x509_sct.specs.Outcome.{IsRefusal, GivesBy}
use Rattle.x509_sct.specs.FieldReading.{whole_or, whole_at}
use Rattle.x509_sct.specs.Form.{Form, AreOctets, Spells, IsForm, IsWholeFault}
use Rattle.x509_sct.specs.Steps.{ok_is, err_is, not_refused, bind_ok, bind_err}
use Rattle.x509_sct.specs.Answers.{Answers}

-- reading gives the one value of an input, or else its first fault
pub record IsReading {Y : Type 0} (IsValue : Y → Type 0) (IsFault : TlsError → Type 0) (reading : Result Y TlsError) : Type 0 where
  pub sound : (y : Y) → reading ≡ Ok y → IsValue y
  pub complete : (y : Y) → IsValue y → reading ≡ Ok y
  pub faulty : (e : TlsError) → reading ≡ Err e → IsFault e
  pub first : (e : TlsError) → IsFault e → reading ≡ Err e

refusal : {X : Type 0} (e : TlsError) (r : Result X TlsError) → IsRefusal e r → (e ≡ Memory) ⊎ (r ≡ Err e)
refusal Memory r h = inl refl
refusal EndOfStream r h = inr h
refusal (UnknownValue n) r h = inr h
refusal TrailingData r h = inr h
refusal InvalidVectorLength r h = inr h

pub answered : {X Y : Type 0} (view : X → Y) (IsValue : Y → Type 0) (IsFault : TlsError → Type 0) (wants : Type 0) (reading : Result Y TlsError) (result : Result X TlsError)
    → IsReading IsValue IsFault reading → GivesBy view result reading → IfErr result (λ e. e ≡ Memory → wants) → Answers view (λ e. e) IsValue IsFault wants result
answered view IsValue IsFault wants reading (Ok x) is gives memory = record {
  found = is.sound (view x) gives;
  value = λ y h. ok_is (view x) y (sym gives ∙ is.complete y h);
  fault = tt;
  first = λ f h. not_refused (view x) f (sym gives ∙ is.first f h);
}
answered view IsValue IsFault wants reading (Err e) is gives memory = record {
  found = tt;
  value = λ y h. elim (refusal e reading gives) [ inl m ↦ (m, memory m) | inr d ↦ not_refused y e (sym (is.complete y h) ∙ d) ];
  fault = elim (refusal e reading gives) [ inl m ↦ inl (m, memory m) | inr d ↦ inr (e, is.faulty e d, refl) ];
  first = λ f h. elim (refusal e reading gives) [ inl m ↦ inl (m, memory m) | inr d ↦ inr (err_is reading e f d (is.first f h)) ];
}

-- ---- a value and nothing more

or_ok : {X : Type 0} (v w : X) (rest : List ℕ) → whole_or (v, rest) ≡ Ok w → (rest ≡ []) × (v ≡ w)
or_ok v w [] e = (refl, ok_is v w e)
or_ok v w (b ∷ rest) e = absurd (let k = e in cc)

or_err : {X : Type 0} (v : X) (rest : List ℕ) (e : TlsError) → whole_or (v, rest) ≡ Err e → (0 < length rest) × (e ≡ TrailingData)
or_err v [] e r = not_refused v e r
or_err v (b ∷ rest) e r = (omega arith, let k : TrailingData ≡ e = cc in sym k)

or_left : {X : Type 0} (v : X) (rest : List ℕ) (e : TlsError) → 0 < length rest → e ≡ TrailingData → whole_or (v, rest) ≡ Err e
or_left v [] e left is = absurd (omega arith)
or_left v (b ∷ rest) e left is = rw is refl

whole_sound : {X : Type 0} (form : Form X) → IsForm form → (input : List ℕ) → AreOctets input → (v : X) → whole_at form.reading input ≡ Ok v → Spells form v input
unfolding whole_at
whole_sound {X} form h input o v e =
    let a = bind_ok (form.reading input) whole_or v e in
    let s = h.sound input a.0.0 a.0.1 o a.1 in
    let b = or_ok a.0.0 v a.0.1 a.2 in
    let all : input ≡ form.bytes a.0.0 = s.1 ∙ rw b.0 (append-nil (form.bytes a.0.0)) in
    rw (← b.1) (s.0, all)

pub whole_reading : {X : Type 0} (form : Form X) → IsForm form → (input : List ℕ) → AreOctets input → IsReading (λ v. Spells form v input) (IsWholeFault form input) (whole_at form.reading input)
unfolding whole_at
whole_reading {X} form h input o = record {
  sound = whole_sound form h input o;
  complete = λ v s.
      let all : form.reading input ≡ Ok (v, []) = ap form.reading (s.1 ∙ sym (append-nil (form.bytes v))) ∙ h.complete v [] s.0 in
      rw all refl;
  faulty = λ e r.
      elim (bind_err (form.reading input) whole_or e r) [
        | inl j ↦ inl (h.faulty input e o j)
        | inr j ↦ inr (record { value = j.0.0; rest = j.0.1; begins = h.sound input j.0.0 j.0.1 o j.1; behind = or_err j.0.0 j.0.1 e j.2 })
      ];
  first = λ e. elim [
    | inl j ↦ rw (h.first input e j) refl
    | inr j ↦ rw (j.begins.1, h.complete j.value j.rest j.begins.0) (or_left j.value j.rest e j.behind.0 j.behind.1)
  ];
}

-- where memory may always be wanted
pub wanted : {X : Type 0} (result : Result X TlsError) → IfErr result (λ e. e ≡ Memory → Unit {0})
wanted (Ok x) = tt
wanted (Err e) = λ m. tt

-- ---- a call that hands an answer on, with its fault as another error

pub hands_on : {X Y E : Type 0} (view : X → Y) (wrap : TlsError → E) (IsValue : Y → Type 0) (IsFault : TlsError → Type 0) (wants : Type 0) (x : X) → Answers view (λ e. e) IsValue IsFault wants (Ok x) → Answers {E = E} view wrap IsValue IsFault wants (Ok x)
hands_on view wrap IsValue IsFault wants x a = record { found = a.found; value = a.value; fault = tt; first = a.first }

pub hands_on_fault : {X Y E : Type 0} (view : X → Y) (wrap : TlsError → E) (IsValue : Y → Type 0) (IsFault : TlsError → Type 0) (wants : Type 0) (d : TlsError) → Answers {X = X} view (λ e. e) IsValue IsFault wants (Err d) → Answers {X = X} view wrap IsValue IsFault wants (Err (wrap d))
hands_on_fault view wrap IsValue IsFault wants d a = record {
  found = tt;
  value = λ y h. let m = a.value y h in (ap wrap m.0, m.1);
  fault = elim a.fault [ inl m ↦ inl (ap wrap m.0, m.1) | inr f ↦ inr (f.0, f.1, ap wrap f.2) ];
  first = λ f h. elim (a.first f h) [ inl m ↦ inl (ap wrap m.0, m.1) | inr s ↦ inr (ap wrap s) ];
}
