-- A field that is read piece by piece.
use Rattle.std.proofs.Common.{◌≡◌, ℕ, List, Result, Ok, Err, refl}
use Rattle.std.specs.Prelude.{IsOk}
use Rattle.x509_der.specs.ElementReading.{Piece, piece_at}
use Rattle.x509_der.specs.Frames.{field_at}
use Rattle.x509_der.specs.declared.error.ErrorKind.{ErrorKind}

module _ {X : Type 0} (read : ℕ → List ℕ → Result X ErrorKind) (bytes : List ℕ) (piece : Piece) (there : piece_at bytes ≡ Ok piece) where
  pub field_is : (value : X) → read piece.tag piece.content ≡ Ok value → field_at read bytes ≡ Ok (value, piece.rest)
  unfolding field_at
  field_is value is = rw (there, is) refl

  field_err : (e : ErrorKind) → read piece.tag piece.content ≡ Err e → field_at read bytes ≡ Err e
  unfolding field_at
  field_err e is = rw (there, is) refl

  pub field_refused : (e : ErrorKind) → read piece.tag piece.content ≡ Err e → IsOk (field_at read bytes) → ⊥
  field_refused e is ok =
      let none : field_at read bytes ≡ Err e = field_err e is in
      let k = rw none at ok in
      absurd cc
