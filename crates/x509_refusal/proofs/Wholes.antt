-- Bytes are read as one whole element exactly where their front is a field with nothing behind it.
use Rattle.std.proofs.Common.{◌≡◌, ℕ, ◌≤◌, Bool, true, false, List, [], ◌∷◌, length, Option, Some, None, Result, Ok, Err, if◌then◌else◌, refl, ap, ◌∙◌}
use Rattle.x509_base.specs.declared.profile.Raw.{Raw}
use Rattle.x509_cert.specs.CertReq.{cert_req, cert_req_contents, cert_req_contents_lawful}
use Rattle.x509_cert.specs.Certificate.{certificate, certificate_lawful}
use Rattle.x509_cert.specs.CertificateList.{certificate_list, certificate_list_lawful}
use Rattle.x509_cert.specs.Respelling.{no_check}
use Rattle.x509_der.specs.Element.{limit}
use Rattle.x509_der.specs.ElementReading.{Piece, piece_at}
use Rattle.x509_der.specs.Form.{Form, IsForm, Spells, alone, is_empty, whole_reading}
use Rattle.x509_der.specs.FormLaws.{is_empty-true, universal_lawful, whole_complete, whole_sound}
use Rattle.x509_der.specs.Frames.{field_at}
use Rattle.x509_der.specs.Outcome.{◌>>=◌}
use Rattle.x509_der.specs.declared.error.ErrorKind.{ErrorKind}
use Rattle.x509_der.specs.declared.error.ErrorKind.TheVariants.{Malformed}
use Rattle.x509_refusal.specs.Unread.{behind, left_by, unread_at, unread_behind, unread_from}
use Rattle.x509_refusal.specs.Objects.{IsObject, whole_of}
use Rattle.x509_refusal.specs.declared.field.Field.{Field}
use Rattle.x509_refusal.specs.declared.field.Field.TheVariants as fields
use Rattle.x509_refusal.specs.declared.place.Kind.{Kind}
use Rattle.x509_refusal.specs.declared.place.Kind.TheVariants as kinds
use Rattle.x509_refusal.specs.declared.place.Place.{Place}
use Rattle.x509_der.specs.declared.tag.Tag.TheVariants.{Sequence}

-- the one field of the whole, and what stands behind it
abbrev pub first_of : Field → ℕ → ℕ → Option (List ℕ) → Option Place
first_of whole offset end left = unread_at whole offset (unread_behind whole end) left

-- nothing is behind it where nothing is left
nothing_left : (whole : Field) (offset end : ℕ) (left : Option (List ℕ)) → first_of whole offset end left ≡ None → left ≡ Some []
nothing_left whole offset end None e = absurd cc
nothing_left whole offset end (Some []) e = refl
nothing_left whole offset end (Some (octet ∷ octets)) e = absurd cc

module _ {X : Type 0} (read : ℕ → List ℕ → Result X ErrorKind) where
  piece_of : (piece : Piece) (value : Result X ErrorKind) → read piece.tag piece.content ≡ value
      → left_by (value >>= λ v. Ok (v, piece.rest)) ≡ Some [] → (v : X) × (alone read piece ≡ Ok v)
  piece_of piece (Err e) r left = absurd cc
  piece_of piece (Ok v) r left =
      let empty : piece.rest ≡ [] = cc in
      (v, rw (empty, r) refl)

  from_piece : (found : Result Piece ErrorKind) → left_by (found >>= λ piece. read piece.tag piece.content >>= λ v. Ok (v, piece.rest)) ≡ Some [] → (v : X) × ((found >>= alone read) ≡ Ok v)
  from_piece (Err e) left = absurd cc
  from_piece (Ok piece) left = piece_of piece (read piece.tag piece.content) refl left

  read_whole : (bytes : List ℕ) → left_by (field_at read bytes) ≡ Some [] → (v : X) × (whole_reading read bytes ≡ Ok v)
  unfolding field_at whole_reading
  read_whole bytes left = from_piece (piece_at bytes) left

  to_alone : (piece : Piece) (v : X) (empty : Bool) → is_empty piece.rest ≡ empty → (if empty then read piece.tag piece.content else Err Malformed) ≡ Ok v → left_by (read piece.tag piece.content >>= λ v. Ok (v, piece.rest)) ≡ Some []
  to_alone piece v true e h = let empty : piece.rest ≡ [] = is_empty-true piece.rest e in rw (h, empty) refl
  to_alone piece v false e h = absurd cc

  to_piece : (found : Result Piece ErrorKind) (v : X) → (found >>= alone read) ≡ Ok v → left_by (found >>= λ piece. read piece.tag piece.content >>= λ v. Ok (v, piece.rest)) ≡ Some []
  to_piece (Err e) v h = absurd cc
  to_piece (Ok piece) v h = to_alone piece v (is_empty piece.rest) refl h

  whole_read : (bytes : List ℕ) (v : X) → whole_reading read bytes ≡ Ok v → left_by (field_at read bytes) ≡ Some []
  unfolding field_at whole_reading
  whole_read bytes v h = to_piece (piece_at bytes) v h

module _ {X : Type 0} {R : ErrorKind → Type 0} (f : Form X) (h : IsForm R f) (whole : Field) (offset : ℕ) (bytes : List ℕ) where
  -- where no place is found the bytes are the encoding of a value
  pub none_is_object : length bytes ≤ limit → first_of whole offset (length bytes) (left_by (field_at f.reading bytes)) ≡ None → (v : X) × Spells f v bytes
  none_is_object within e =
      let read = read_whole f.reading bytes (nothing_left whole offset (length bytes) (left_by (field_at f.reading bytes)) e) in
      let s = whole_sound f h bytes read.0 read.1 in
      (read.0, (s.0, s.1, within))

  -- and the other way round
  pub object_is_none : (v : X) → Spells f v bytes → first_of whole offset (length bytes) (left_by (field_at f.reading bytes)) ≡ None
  object_is_none v s =
      let read : whole_reading f.reading bytes ≡ Ok v = ap (whole_reading f.reading) s.1 ∙ whole_complete f h v s.0 in
      ap (first_of whole offset (length bytes)) (whole_read f.reading bytes v read)

cert_req_lawful : IsForm (λ e. ⊥) cert_req
cert_req_lawful = universal_lawful Sequence cert_req_contents cert_req_contents_lawful

abbrev pub whole_place : Kind → List ℕ → Option Place
whole_place kind bytes = unread_from (whole_of kind) (length bytes) (whole_of kind ∷ []) bytes

pub whole_none : (kind : Kind) (bytes : List ℕ) → length bytes ≤ limit → whole_place kind bytes ≡ None → IsObject kind bytes
unfolding behind
whole_none kinds.Certificate bytes within e = none_is_object (certificate no_check) (certificate_lawful {P = Raw} no_check) fields.Certificate _ bytes within e
whole_none kinds.Crl bytes within e = none_is_object (certificate_list no_check) (certificate_list_lawful {P = Raw} no_check) fields.CertificateList _ bytes within e
whole_none kinds.Csr bytes within e = none_is_object cert_req cert_req_lawful fields.CertificationRequest _ bytes within e

pub whole_object : (kind : Kind) (bytes : List ℕ) → IsObject kind bytes → whole_place kind bytes ≡ None
unfolding behind
whole_object kinds.Certificate bytes o = object_is_none (certificate no_check) (certificate_lawful {P = Raw} no_check) fields.Certificate _ bytes o.0 o.1
whole_object kinds.Crl bytes o = object_is_none (certificate_list no_check) (certificate_list_lawful {P = Raw} no_check) fields.CertificateList _ bytes o.0 o.1
whole_object kinds.Csr bytes o = object_is_none cert_req cert_req_lawful fields.CertificationRequest _ bytes o.0 o.1
