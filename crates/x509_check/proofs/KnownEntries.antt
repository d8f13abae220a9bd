-- The parts of an entry that is known to stand in bytes.
use Rattle.std.proofs.Common.{◌≡◌, ℕ, ◌≤◌, List, ◌++◌, length, Option, Some, None, Result, Ok, Err, refl, sym, ap, ◌∙◌, arith, length-append}
use Rattle.std.specs.Prelude.{IfSome, IsOk}
use Rattle.x509_base.specs.Time.{time, time_lawful}
use Rattle.x509_cert.specs.RevokedCert.{revoked_cert, revoked_cert_contents, revoked_cert_contents_lawful, revoked_cert_fields, revoked_cert_lawful}
use Rattle.x509_cert.specs.declared.crl.revoked_cert.RevokedCert.{RevokedCert}
use Rattle.x509_check.specs.ExtensionRefs.{SpellsOptional}
use Rattle.x509_der.specs.Element.{element, limit}
use Rattle.x509_der.specs.ElementLaws.{piece_at-element}
use Rattle.x509_der.specs.ElementReading.{Piece, piece_at}
use Rattle.x509_der.specs.Form.{Spells, spelling}
use Rattle.x509_der.specs.FrameLaws.{field_complete, field_sound}
use Rattle.x509_der.specs.Frames.{field_at, fields_good, fields_octets, optional_octets}
use Rattle.x509_der.specs.Outcome.{◌>>=◌, IsRefusal}
use Rattle.x509_der.specs.OutcomeLaws.{ok_is}
use Rattle.x509_der.specs.TagLaws.{tag_is_identifier}
use Rattle.x509_der.specs.declared.error.ErrorKind.{ErrorKind}
use Rattle.x509_der.specs.declared.error.ErrorKind.TheVariants.{Malformed}
use Rattle.x509_der.specs.declared.error.ErrorKind.TheVariants as errors
use Rattle.x509_der.specs.declared.tag.Tag.TheVariants.{Integer, Sequence}
use Rattle.x509_ext.specs.Extension.{extensions}
use Rattle.x509_ext.specs.declared.extension.Extension.{Extension}

pub some_value : {X : Type 0} (reading : Result X ErrorKind) → IsOk reading → (value : X) × (reading ≡ Ok value)
some_value (Ok value) ok = (value, refl)
some_value (Err e) ok = absurd cc

-- where an element stands, none is refused
pub not_refused : (bytes : List ℕ) (piece : Piece) (e : ErrorKind) → piece_at bytes ≡ Ok piece → IsRefusal e (piece_at bytes) → e ≡ Malformed → ⊥
not_refused bytes piece errors.Malformed is h same = absurd (let k = sym is ∙ h in cc)
not_refused bytes piece errors.Memory is h same = absurd cc
not_refused bytes piece errors.Overlength is h same = absurd cc
not_refused bytes piece errors.Failed is h same = absurd cc
not_refused bytes piece errors.SetDuplicate is h same = absurd cc
not_refused bytes piece errors.Value is h same = absurd cc

spells_optional : (list : Option (List Extension)) → IfSome list extensions.good → length (optional_octets (spelling extensions) list) ≤ limit → SpellsOptional list (optional_octets (spelling extensions) list)
spells_optional None good within = refl
spells_optional (Some list) good within = (good, refl, within)

module _ {P : Type 0} (check : List ℕ → Result Unit ErrorKind) where
  abbrev pub behind_date : RevokedCert P → List ℕ
  behind_date entry = optional_octets (spelling extensions) entry.crl_entry_extensions

  abbrev pub behind_number : RevokedCert P → List ℕ
  behind_number entry = spelling time entry.revocation_date ++ behind_date entry

  -- the number stands in front
  pub number_stands : (octets : List ℕ) (entry : RevokedCert P) → (revoked_cert_contents {P = P} check).reading octets ≡ Ok entry → piece_at octets ≡ Ok (record { tag = 2; content = entry.serial_number; rest = behind_number entry })
  unfolding revoked_cert_fields fields_octets
  number_stands octets entry read = ap piece_at ((revoked_cert_contents_lawful {P = P} check).sound octets entry read).1 ∙ piece_at-element 2 entry.serial_number (behind_number entry) (tag_is_identifier Integer)

  -- and the other parts behind it
  pub record StandsIn (octets : List ℕ) (entry : RevokedCert P) : Type 0 where
    pub number : piece_at octets ≡ Ok (record { tag = 2; content = entry.serial_number; rest = behind_number entry })
    pub date : field_at time.reading (behind_number entry) ≡ Ok (entry.revocation_date, behind_date entry)
    pub behind : SpellsOptional entry.crl_entry_extensions (behind_date entry)

  pub stands_in : (octets : List ℕ) (entry : RevokedCert P) → length octets ≤ limit → (revoked_cert_contents {P = P} check).reading octets ≡ Ok entry → StandsIn octets entry
  unfolding revoked_cert_fields fields_octets fields_good
  stands_in octets entry within read =
      let s = (revoked_cert_contents_lawful {P = P} check).sound octets entry read in record {
        number = number_stands octets entry read;
        date = field_complete time (time_lawful {R = λ e. ⊥}) entry.revocation_date (behind_date entry) s.0.1.0;
        behind = spells_optional entry.crl_entry_extensions s.0.1.1
            (omega (arith, within, ap length s.1, length-append (element 2 entry.serial_number) (behind_number entry), length-append (spelling time entry.revocation_date) (behind_date entry)));
      }

  -- where the parts are taken off one after the other, they are those
  pub record AreTaken (octets : List ℕ) (entry : RevokedCert P) (piece : Piece) : Type 0 where
    pub number_is : piece.content ≡ entry.serial_number
    pub date_is : field_at time.reading piece.rest ≡ Ok (entry.revocation_date, behind_date entry)
    pub behind : SpellsOptional entry.crl_entry_extensions (behind_date entry)

  pub are_taken : (octets : List ℕ) (entry : RevokedCert P) (piece : Piece) → length octets ≤ limit → (revoked_cert_contents {P = P} check).reading octets ≡ Ok entry → piece_at octets ≡ Ok piece → AreTaken octets entry piece
  are_taken octets entry piece within read p =
      let s = stands_in octets entry within read in
      let same = ok_is piece _ (sym p ∙ s.number) in record {
        number_is = ap (λ (q : Piece). q.content) same;
        date_is = ap (λ (q : Piece). field_at time.reading q.rest) same ∙ s.date;
        behind = s.behind;
      }

-- ---- the extensions

-- no bytes are those of no list, and others those of one
pub no_extensions : (bytes : List ℕ) → length bytes ≡ 0 → (list : Option (List Extension)) → SpellsOptional list bytes → None ≡ list
unfolding element
no_extensions bytes none None s = refl
no_extensions bytes none (Some list) s = absurd (omega (arith, none, ap length s.1))

pub some_extensions : (bytes : List ℕ) → 1 ≤ length bytes → (list : Option (List Extension)) → SpellsOptional list bytes → (found : List Extension) × (list ≡ Some found) × Spells extensions found bytes
some_extensions bytes some None s = absurd (omega (arith, some, ap length s))
some_extensions bytes some (Some list) s = (list, refl, s)

-- ---- what stands behind a field

abbrev before : {X : Type 0} → List ℕ → X → Result (X × List ℕ) ErrorKind
before behind value = Ok (value, behind)

behind_value : {X : Type 0} (r : Result X ErrorKind) (behind rest : List ℕ) (v : X) → (r >>= before behind) ≡ Ok (v, rest) → behind ≡ rest
behind_value {X} (Ok x) behind rest v e = ap (λ (p : X × List ℕ). p.1) (ok_is (x, behind) (v, rest) e)
behind_value (Err d) behind rest v e = absurd cc

module _ {X : Type 0} (read : ℕ → List ℕ → Result X ErrorKind) where
  pub behind_field : (bytes rest : List ℕ) (v : X) (piece : Piece) → piece_at bytes ≡ Ok piece → field_at read bytes ≡ Ok (v, rest) → piece.rest ≡ rest
  unfolding field_at
  behind_field bytes rest v piece p e = behind_value (read piece.tag piece.content) piece.rest rest v (rw p at e)

  piece_there : (r : Result Piece ErrorKind) (bytes rest : List ℕ) (v : X) → piece_at bytes ≡ r → field_at read bytes ≡ Ok (v, rest) → (piece : Piece) × (piece_at bytes ≡ Ok piece)
  unfolding field_at
  piece_there (Ok piece) bytes rest v p e = (piece, p)
  piece_there (Err d) bytes rest v p e = absurd (let k = rw p at e in cc)

  pub piece_of_field : (bytes rest : List ℕ) (v : X) → field_at read bytes ≡ Ok (v, rest) → (piece : Piece) × (piece_at bytes ≡ Ok piece)
  piece_of_field bytes rest v e = piece_there (piece_at bytes) bytes rest v refl e

-- ---- an entry

module _ {P : Type 0} (check : List ℕ → Result Unit ErrorKind) where
  pub record IsPiece (bytes : List ℕ) (entry : RevokedCert P) (rest : List ℕ) (piece : Piece) : Type 0 where
    pub rest_is : piece.rest ≡ rest
    pub read : (revoked_cert_contents {P = P} check).reading piece.content ≡ Ok entry

  -- the entry that stands at the front is the content of the element there
  pub is_piece : (bytes : List ℕ) (entry : RevokedCert P) (rest : List ℕ) (piece : Piece) → piece_at bytes ≡ Ok piece → field_at (revoked_cert {P = P} check).reading bytes ≡ Ok (entry, rest) → IsPiece bytes entry rest piece
  is_piece bytes entry rest piece p read =
      let s = field_sound (revoked_cert check) (revoked_cert_lawful check) bytes entry rest read in
      let stands = ok_is piece _ (sym p ∙ ap piece_at s.1 ∙ piece_at-element 48 ((revoked_cert check).content entry) rest (tag_is_identifier Sequence)) in record {
        rest_is = ap (λ (q : Piece). q.rest) stands;
        read = ap (λ (q : Piece). (revoked_cert_contents {P = P} check).reading q.content) stands ∙ (revoked_cert_contents_lawful check).complete entry s.0;
      }

  pub some_piece : (bytes : List ℕ) (entry : RevokedCert P) (rest : List ℕ) → field_at (revoked_cert {P = P} check).reading bytes ≡ Ok (entry, rest) → (piece : Piece) × (piece_at bytes ≡ Ok piece)
  some_piece bytes entry rest read =
      let s = field_sound (revoked_cert check) (revoked_cert_lawful check) bytes entry rest read in
      (record { tag = 48; content = (revoked_cert check).content entry; rest = rest }, ap piece_at s.1 ∙ piece_at-element 48 ((revoked_cert check).content entry) rest (tag_is_identifier Sequence))
