-- What `encode_to_slice` answers, from what its calls say: the room was `old` and is `now`, and `spelling` was to be written.
use Rattle.std.proofs.Common.{◌≡◌, ℕ, ◌+◌, ◌-◌, ◌≤◌, List, ◌++◌, length, take, drop, sym, ap, subst, ◌∙◌, arith, length-take-le}
use Rattle.std.specs.Prelude.{Result, Ok, Err, IfOk, IfErr, OnOk, MatchResult, IsOkAnd, IsErrAnd}
use denote.Ref.{Bor}
use Rattle.std.proofs.Math.Seq.{drop-append_seam}
use Rattle.x509_der.specs.declared.error.Error.{Error}
use Rattle.x509_der.specs.declared.error.ErrorKind.{ErrorKind}

-- what `encode_into` says of how many bytes come before the spelling, or of its refusal
pub record Wrote (old now spelling : List ℕ) (W : Type 0) (U : ErrorKind → Type 0) (before : Result ℕ Error) : Type 0 where
  pub ok : OnOk before W
  pub bytes : IfOk before (λ n. now ≡ take n old ++ spelling)
  pub len : IfOk before (λ n. n + length spelling ≡ length old)
  pub err : IfErr before (λ e. U e.kind)

-- what `encode_to_slice` says
pub record Answers (old now spelling : List ℕ) (W : Type 0) (U : ErrorKind → Type 0) (answer : Result (Bor (List ℕ)) Error) : Type 0 where
  pub ok : OnOk answer W
  pub bytes : IfOk answer (λ b. b.now ≡ spelling)
  pub err : IfErr answer (λ e. U e.kind)
  pub place : IfOk answer (λ b. now ≡ take (length old - length b.now) old ++ b.now)

-- what `bytes_after` says
abbrev pub After : Result ℕ Error → List ℕ → Result (Bor (List ℕ)) Error → Type 0
After before shown answer = MatchResult before (λ n. IsOkAnd answer (λ part. part.now ≡ drop n shown)) (λ e. IsErrAnd answer (λ same. same ≡ e))

module _ (old now spelling : List ℕ) (W : Type 0) (U : ErrorKind → Type 0) where
  pub within : (before : Result ℕ Error) (shown : List ℕ) → Wrote old now spelling W U before → length now ≡ length old → shown ≡ now → IfOk before (λ n. n ≤ length shown)
  within (Ok n) shown w len is = omega (arith, w.len, len, ap length is)
  within (Err e) shown w len is = tt

  cut : (n : ℕ) → n + length spelling ≡ length old → now ≡ take n old ++ spelling → drop n now ≡ spelling
  cut n len is =
      let long : length (take n old) ≡ n = length-take-le n old (omega (arith, len)) in
      ap (drop n) is ∙ ap (λ (k : ℕ). drop k (take n old ++ spelling)) (sym long) ∙ drop-append_seam (take n old) spelling

  pub answers : (before : Result ℕ Error) (shown : List ℕ) (answer : Result (Bor (List ℕ)) Error) → Wrote old now spelling W U before → shown ≡ now → After before shown answer → Answers old now spelling W U answer
  answers (Ok n) shown (Ok part) w is after =
      let same : part.now ≡ spelling = after ∙ ap (drop n) is ∙ cut n w.len w.bytes in
      let front : n ≡ length old - length part.now = omega (arith, w.len, ap length same) in
      record {
        ok = w.ok;
        bytes = same;
        err = tt;
        place = w.bytes ∙ ap (λ (k : ℕ). take k old ++ spelling) front ∙ ap (λ (s : List ℕ). take (length old - length part.now) old ++ s) (sym same);
      }
  answers (Ok n) shown (Err e) w is after = absurd after
  answers (Err e) shown (Ok part) w is after = absurd after
  answers (Err e) shown (Err f) w is after = record { ok = tt; bytes = tt; err = subst (λ (x : Error). U x.kind) (sym after) w.err; place = tt }
