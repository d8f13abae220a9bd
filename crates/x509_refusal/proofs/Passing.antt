-- A check passes over a field exactly where its reading does.
use Rattle.std.proofs.Common.{◌≡◌, ℕ, true, false, List, Option, Some, None, Result, Ok, Err, ap}
use Rattle.std.specs.Result.{is_err}
use Rattle.x509_check.specs.Checking.{Passes}
use Rattle.x509_der.specs.declared.error.Error.{Error}
use Rattle.x509_der.specs.declared.error.ErrorKind.{ErrorKind}
use Rattle.x509_refusal.specs.Unread.{Leaves, left_by}

pub passes_over : {X : Type 0} (result : Result Unit Error) (rest : List ℕ) (reading : Result (X × List ℕ) ErrorKind) → Passes result rest reading → Leaves result rest (left_by reading)
passes_over (Ok done) rest reading p = ap left_by p.1
passes_over (Err e) rest reading p = ap left_by p

-- a refused check says that the field can't be read, and one that passes what is left
pub refused : (result : Result Unit Error) (rest : List ℕ) (left : Option (List ℕ)) → Leaves result rest left → is_err result ≡ true → left ≡ None
refused (Ok done) rest left p e = absurd cc
refused (Err d) rest left p e = p

pub passed : (result : Result Unit Error) (rest : List ℕ) (left : Option (List ℕ)) → Leaves result rest left → is_err result ≡ false → left ≡ Some rest
passed (Ok done) rest left p e = p
passed (Err d) rest left p e = absurd cc
