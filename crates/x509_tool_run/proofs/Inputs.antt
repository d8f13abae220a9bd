-- How reading ends.
use Rattle.std.proofs.Common.{◌≡◌, ℕ, List, Option, Result, Ok, Err, sym, subst}
use Rattle.std.specs.Result.{IsErrAnd}
use Rattle.x509_der.specs.declared.error.ErrorKind.TheVariants.{Memory}
use Rattle.x509_tool_run.specs.declared.refusal.Refusal.{Refusal}
use Rattle.x509_tool_run.specs.declared.refusal.Refusal.TheVariants.{Because}
use Rattle.x509_tool_run.specs.Input.{Unkept, IsRead, EndsReading}

-- a refusal for lack of memory leaves an input that isn't kept
pub ends_unkept : {X S : Type 0} (view : X → List ℕ) (step : S → Option (List ℕ) → S → Type 0) (s : S) (result : Result X Refusal) (t : S) → IsErrAnd result (λ e. e ≡ Because Memory) → IsRead step s Unkept t → EndsReading view step s result t
ends_unkept view step s (Ok x) t h read = absurd h
ends_unkept view step s (Err e) t h read =
    subst (λ (e : Refusal). EndsReading view step s (Err e) t) (sym h) read
