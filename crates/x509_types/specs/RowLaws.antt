-- A row of a table is the one that is asked for, or it is passed over.
use Rattle.std.proofs.Common.{◌≡◌, ◌≢◌, ℕ, List, true, false, Result, arith}
use Rattle.std.specs.Str.{bytes_eq}
use Rattle.std.proofs.lemmas.Slice.Eq.{bytes_eq-Decides}
use Rattle.x509_der.specs.declared.error.Error.{Error}
use Rattle.x509_types.specs.Table.{Answers, IsAmong, either_of}

same_name : (word name : List ℕ) → word ≡ name → bytes_eq word name ≡ true
same_name word name same = (bytes_eq-Decides word name).1 same

other_name : (word name : List ℕ) → word ≢ name → bytes_eq word name ≡ false
other_name word name other = grind (arith, bytes_eq-Decides word name)

pub is_found : {X : Type 0} (view : X → List ℕ) (word name : List ℕ) (here rest : Answers) (result : Result X Error) → word ≡ name → IsAmong view here result → IsAmong view (either_of (bytes_eq word name) here rest) result
is_found view word name here rest result same h = rw (same_name word name same) h

pub is_passed : {X : Type 0} (view : X → List ℕ) (word name : List ℕ) (here rest : Answers) (result : Result X Error) → word ≢ name → IsAmong view rest result → IsAmong view (either_of (bytes_eq word name) here rest) result
is_passed view word name here rest result other h = rw (other_name word name other) h
