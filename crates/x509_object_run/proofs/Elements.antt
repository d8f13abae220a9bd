-- Elements at the front of octets, as the fields of a SignedData.
use Rattle.std.proofs.Common.{◌≡◌, ◌≢◌, eqb, ℕ, List, [], ◌∷◌, Result, Ok, Err, refl, ap, inl, inr}
use Rattle.std.proofs.lemmas.Bool.{cases_Bool, eq-eqb, eqb-true}
use Rattle.x509_der.specs.ElementLaws.{piece_at-refused}
use Rattle.x509_der.specs.ElementReading.{Piece, piece_at}
use Rattle.x509_der.specs.Form.{Contents, alone, reading_under, under, whole_reading}
use Rattle.x509_der.specs.Frames.{field_at}
use Rattle.x509_der.specs.Outcome.{◌>>=◌}
use Rattle.x509_der.specs.declared.error.ErrorKind.{ErrorKind}
use Rattle.x509_der.specs.declared.error.ErrorKind.TheVariants.{Malformed}

-- an element with this identifier octet, and what follows it
abbrev pub piece_of : ℕ → List ℕ → List ℕ → Piece
piece_of identifier content rest = record { tag = identifier; content = content; rest = rest }

-- ---- one field

module _ {X : Type 0} (contents : Contents X) (identifier : ℕ) where
  -- where it stands there it is read
  pub field_of : (bytes content rest : List ℕ) → piece_at bytes ≡ Ok (piece_of identifier content rest) → field_at (under identifier contents).reading bytes ≡ (contents.reading content >>= λ value. Ok (value, rest))
  unfolding field_at
  field_of bytes content rest h = rw (h, eq-eqb identifier identifier refl) refl

  pub whole_of : (bytes content : List ℕ) → piece_at bytes ≡ Ok (piece_of identifier content []) → whole_reading (under identifier contents).reading bytes ≡ contents.reading content
  unfolding whole_reading
  whole_of bytes content h = rw (h, eq-eqb identifier identifier refl) refl

  other_field : (tag : ℕ) (content : List ℕ) → tag ≢ identifier → reading_under identifier contents.reading tag content ≡ Err Malformed
  other_field tag content other = elim (cases_Bool (eqb tag identifier)) [ inl same ↦ absurd (other (eqb-true tag identifier same)) | inr differs ↦ rw differs refl ]

  field_in : Piece → Result (X × List ℕ) ErrorKind
  field_in found = reading_under identifier contents.reading found.tag found.content >>= λ value. Ok (value, found.rest)

  no_field : (piece : Result Piece ErrorKind) → ((e : ErrorKind) → piece ≡ Err e → e ≡ Malformed) → ((found : Piece) → piece ≡ Ok found → found.tag ≢ identifier) → (piece >>= field_in) ≡ Err Malformed
  unfolding field_in
  no_field (Ok found) refused other = rw (other_field found.tag found.content (other found refl)) refl
  no_field (Err e) refused other = ap (λ kind. Err kind) (refused e refl)

  -- where it doesn't it is refused
  pub field_none : (bytes : List ℕ) → ((piece : Piece) → piece_at bytes ≡ Ok piece → piece.tag ≢ identifier) → field_at (under identifier contents).reading bytes ≡ Err Malformed
  unfolding field_at field_in
  field_none bytes other = no_field (piece_at bytes) (piece_at-refused bytes) other

  behind_none : (tag : ℕ) (content rest : List ℕ) → ((whole : List ℕ) → piece_of tag content rest ≢ piece_of identifier whole []) → alone (under identifier contents).reading (piece_of tag content rest) ≡ Err Malformed
  behind_none tag content [] other = other_field tag content (λ same. other content (ap (λ t. piece_of t content []) same))
  behind_none tag content (b ∷ rest) other = refl

  not_alone : (found : Piece) → ((content : List ℕ) → found ≢ piece_of identifier content []) → alone (under identifier contents).reading found ≡ Err Malformed
  not_alone found other = behind_none found.tag found.content found.rest other

  no_whole : (piece : Result Piece ErrorKind) → ((e : ErrorKind) → piece ≡ Err e → e ≡ Malformed) → ((content : List ℕ) → piece ≢ Ok (piece_of identifier content [])) → (piece >>= alone (under identifier contents).reading) ≡ Err Malformed
  no_whole (Ok found) refused other = not_alone found (λ content same. other content (ap (λ p. Ok p) same))
  no_whole (Err e) refused other = ap (λ kind. Err kind) (refused e refl)

  pub whole_none : (bytes : List ℕ) → ((content : List ℕ) → piece_at bytes ≢ Ok (piece_of identifier content [])) → whole_reading (under identifier contents).reading bytes ≡ Err Malformed
  unfolding whole_reading
  whole_none bytes other = no_whole (piece_at bytes) (piece_at-refused bytes) other
