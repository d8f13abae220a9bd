-- What a check answers, as what a call answers that reads.
use Rattle.std.proofs.Common.{◌≡◌, Result, Ok, Err, refl, ap}
use Rattle.x509_check.specs.Checking.{checked}
use Rattle.x509_der.specs.Outcome.{Answers, IsRefusal}
use Rattle.x509_der.specs.declared.error.Error.{Error}
use Rattle.x509_der.specs.declared.error.ErrorKind.{ErrorKind}
use Rattle.x509_der.specs.declared.error.ErrorKind.TheVariants.{Memory}
use Rattle.x509_crl_index.specs.Split.{GivesSo}

refused : {X : Type 0} (kind : ErrorKind) (reading : Result X ErrorKind) → reading ≡ Err kind → IsRefusal kind reading
refused Memory reading is = tt
refused kind reading is = is

pub passed : {X : Type 0} (result : Result Unit Error) (reading : Result X ErrorKind) → Answers result (checked reading) → GivesSo {X = X} {Y = Unit} (λ _ _. Unit) result reading
passed (Ok done) (Ok value) answer = (value, refl, tt)
passed (Ok done) (Err kind) answer = absurd cc
passed (Err e) (Ok value) answer = absurd cc
passed (Err e) (Err kind) answer = let same : kind ≡ e.kind = cc in refused e.kind (Err kind) (ap Err same)
