-- What a reader has to show of its answer.
use Rattle.std.proofs.Common.{◌≡◌, ℕ, Bool, true, false, not, nat_eq, inl, inr, List, Result, Ok, Err, refl, sym, ap, ◌∙◌}
use Rattle.std.specs.Cmp.Lexicographic.{pointwise, same_text, other_text}
use Rattle.std.proofs.lemmas.Bool.{cases_Bool}
use Rattle.x509_der.specs.declared.error.Error.{Error}
use Rattle.x509_der.specs.declared.error.ErrorKind.{ErrorKind}
use Rattle.x509_der.specs.declared.error.ErrorKind.TheVariants.{Malformed}
use Rattle.x509_base.specs.CivilTime.{CivilTime, IsDateTime}
use Rattle.x509_der.specs.Outcome.{Answers}
use Rattle.x509_base.specs.TimeReading.{Reads}

-- the value that was found is the only one, since the bytes name it again
pub reads_ok : {good : CivilTime → Type 0} {spelling : CivilTime → List ℕ} (named : List ℕ → CivilTime) → ((c : CivilTime) → good c → named (spelling c) ≡ c) → (refusal : ErrorKind) (bytes : List ℕ) (v : CivilTime) → good v → bytes ≡ spelling v → Reads good spelling refusal bytes (Ok v)
reads_ok named again refusal bytes v h e = record {
  found = (h, e);
  every = λ c g same. ap Ok (sym (again v h) ∙ ap named (sym e ∙ same) ∙ again c g);
  refused = tt;
}

-- no value has these bytes
pub reads_err : {good : CivilTime → Type 0} {spelling : CivilTime → List ℕ} (refusal : ErrorKind) (bytes : List ℕ) (e : Error) → e.kind ≡ refusal → ((c : CivilTime) → good c → bytes ≡ spelling c → ⊥) → Reads good spelling refusal bytes (Err e)
reads_err refusal bytes e kind none = record {
  found = tt;
  every = λ c h same. absurd (none c h same);
  refused = kind;
}

-- the answer is that of a reading with these laws
pub answers_reading : {good : CivilTime → Type 0} {spelling : CivilTime → List ℕ} (reading : List ℕ → Result CivilTime ErrorKind) → ((bytes : List ℕ) (c : CivilTime) → reading bytes ≡ Ok c → good c × (bytes ≡ spelling c)) → ((c : CivilTime) → good c → reading (spelling c) ≡ Ok c) → ((bytes : List ℕ) (kind : ErrorKind) → reading bytes ≡ Err kind → kind ≡ Malformed) → (bytes : List ℕ) (answer : Result CivilTime Error) → Reads good spelling Malformed bytes answer → Answers answer (reading bytes)
answers_reading reading sound complete refused bytes (Ok v) h = rw h.found.1 (complete v h.found.0)
answers_reading {good} {spelling} reading sound complete refused bytes (Err e) h =
    by_reading (reading bytes) refl
  where
    by_reading : (r : Result CivilTime ErrorKind) → reading bytes ≡ r → reading bytes ≡ Err e.kind
    by_reading (Ok c) is =
        let good_one = sound bytes c is in
        let found = h.every c good_one.0 good_one.1 in
        absurd cc
    by_reading (Err kind) is = is ∙ ap Err (refused bytes kind is ∙ sym h.refused)

-- what the bytes name is not good, or they are not its spelling
pub reads_err_named : {good : CivilTime → Type 0} {spelling : CivilTime → List ℕ} (named : List ℕ → CivilTime) → ((c : CivilTime) → good c → named (spelling c) ≡ c) → (refusal : ErrorKind) (bytes : List ℕ) (e : Error) → e.kind ≡ refusal → (good (named bytes) → bytes ≡ spelling (named bytes) → ⊥) → Reads good spelling refusal bytes (Err e)
reads_err_named named again refusal bytes e kind bad =
    reads_err refusal bytes e kind (λ c h same. let is : named bytes ≡ c = ap named same ∙ again c h in bad (rw is h) (rw is same))

-- what `!=` of two byte strings tells
pub equal_bytes : (r : Bool) (xs ys : List ℕ) → r ≡ not (pointwise nat_eq xs ys) → r ≡ false → xs ≡ ys
equal_bytes r xs ys e is =
    elim (cases_Bool (pointwise nat_eq xs ys)) [ inl same ↦ same_text xs ys (sym same) | inr other ↦ absurd (let unequal = rw other at e in cc) ]

pub other_bytes : (r : Bool) (xs ys : List ℕ) → r ≡ not (pointwise nat_eq xs ys) → r ≡ true → xs ≡ ys → ⊥
other_bytes r xs ys e is =
    elim (cases_Bool (pointwise nat_eq xs ys)) [ inl same ↦ absurd (let equal = rw same at e in cc) | inr other ↦ other_text xs ys (sym other) ]

pub kind_of : (e : Error) (kind : ErrorKind) → e ≡ record { kind = kind } → e.kind ≡ kind
kind_of e kind is = ap (λ (x : Error). x.kind) is

-- the same date-time
pub is_date_time_too : (c d : CivilTime) → c ≡ d → IsDateTime d → IsDateTime c
is_date_time_too c d is h = rw is h
