-- Looking for an entry among entries that were checked.
use Rattle.std.proofs.Common.{◌≡◌, ℕ, ◌≤◌, true, false, List, [], ◌∷◌, ◌++◌, length, bytes_eq, Result, Ok, Err, refl, sym, ap, ◌∙◌, arith, length-append}
use Rattle.x509_cert.specs.Revoked.{IsFirstWith, with_serial}
use Rattle.x509_cert.specs.RevokedCert.{revoked_cert, revoked_cert_lawful}
use Rattle.x509_cert.specs.declared.crl.revoked_cert.RevokedCert.{RevokedCert}
use Rattle.x509_check.proofs.KnownEntries.{behind_number, is_piece, number_stands}
use Rattle.x509_der.specs.Element.{element}
use Rattle.x509_der.specs.ElementLaws.{piece_at-element, piece_at-sound}
use Rattle.x509_der.specs.ElementReading.{Piece, piece_at}
use Rattle.x509_der.specs.Form.{Form, spelling}
use Rattle.x509_der.specs.FrameLaws.{field_complete}
use Rattle.x509_der.specs.Frames.{field_at}
use Rattle.x509_der.specs.List.{all_good, joined, list_reading}
use Rattle.x509_der.specs.ListLaws.{list_lawful}
use Rattle.x509_der.specs.TagLaws.{tag_is_identifier}
use Rattle.x509_der.specs.declared.error.ErrorKind.{ErrorKind}
use Rattle.x509_der.specs.declared.tag.Tag.TheVariants.{Sequence}

longer : (tag : ℕ) (content : List ℕ) → 1 ≤ length (element tag content)
unfolding element
longer tag content = omega arith

module _ {P : Type 0} (check : List ℕ → Result Unit ErrorKind) where
  abbrev form : Form (RevokedCert P)
  form = revoked_cert check

  -- these are left, good ones, and are all with the number that there are
  pub record AreLeft (number : List ℕ) (revoked : List (RevokedCert P)) (rest : List ℕ) (left : List (RevokedCert P)) : Type 0 where
    pub text : rest ≡ joined (spelling form) left
    pub good : all_good form.good left
    pub same : with_serial number revoked ≡ with_serial number left

  pub at_first : (number octets : List ℕ) (revoked : List (RevokedCert P)) → list_reading form.reading octets ≡ Ok revoked → AreLeft number revoked octets revoked
  at_first number octets revoked read =
      let s = (list_lawful form (revoked_cert_lawful check)).sound octets revoked read in
      record { text = s.1; good = s.0; same = refl }

  -- an element stands at the front of the first
  here : (v : RevokedCert P) (rest : List ℕ) → piece_at (spelling form v ++ rest) ≡ Ok (record { tag = 48; content = form.content v; rest = rest })
  here v rest = piece_at-element 48 (form.content v) rest (tag_is_identifier Sequence)

  -- what stands at the front
  pub record IsHere (number : List ℕ) (revoked : List (RevokedCert P)) (rest : List ℕ) (piece : Piece) : Type 0 where
    pub entry : RevokedCert P
    pub others : List (RevokedCert P)
    pub first : Piece
    pub first_is : piece_at piece.content ≡ Ok first
    pub number_is : first.content ≡ entry.serial_number
    pub read : field_at form.reading rest ≡ Ok (entry, piece.rest)
    pub left : with_serial number revoked ≡ with_serial number (entry ∷ others)
    pub behind : AreLeft number others piece.rest others

  pub is_here : (number : List ℕ) (revoked : List (RevokedCert P)) (rest : List ℕ) (left : List (RevokedCert P)) (piece : Piece) → piece_at rest ≡ Ok piece → AreLeft number revoked rest left → IsHere number revoked rest piece
  unfolding joined all_good
  is_here number revoked rest [] piece p h =
      absurd (omega (arith, ap length h.text, ap length (piece_at-sound rest piece p).0, length-append (element piece.tag piece.content) piece.rest, longer piece.tag piece.content))
  is_here number revoked rest (v ∷ others) piece p h =
      let read = ap (field_at form.reading) h.text ∙ field_complete form (revoked_cert_lawful check) v (joined (spelling form) others) h.good.0 in
      let stands = is_piece check rest v (joined (spelling form) others) piece p read in record {
        entry = v;
        others = others;
        first = record { tag = 2; content = v.serial_number; rest = behind_number check v };
        first_is = number_stands check piece.content v stands.read;
        number_is = refl;
        read = read ∙ ap (λ r. Ok (v, r)) (sym stands.rest_is);
        left = h.same;
        behind = record { text = stands.rest_is; good = h.good.1; same = refl };
      }

  -- where no element stands none is left
  pub none_here : (number : List ℕ) (revoked : List (RevokedCert P)) (rest : List ℕ) (left : List (RevokedCert P)) (e : ErrorKind) → piece_at rest ≡ Err e → AreLeft number revoked rest left → with_serial number revoked ≡ []
  unfolding joined
  none_here number revoked rest [] e p h = h.same
  none_here number revoked rest (v ∷ others) e p h = absurd (let k = sym p ∙ ap piece_at h.text ∙ here v (joined (spelling form) others) in cc)

  pub none_further : (number : List ℕ) (revoked : List (RevokedCert P)) (rest : List ℕ) (left : List (RevokedCert P)) → length rest ≡ 0 → AreLeft number revoked rest left → with_serial number revoked ≡ []
  unfolding joined
  none_further number revoked rest [] none h = h.same
  none_further number revoked rest (v ∷ others) none h = absurd (omega (arith, none, ap length h.text, length-append (spelling form v) (joined (spelling form) others), longer 48 (form.content v)))

module _ {P : Type 0} (number : List ℕ) where
  -- the first of these has the number, or those behind it have it alone
  pub is_first : (revoked others : List (RevokedCert P)) (entry : RevokedCert P) → with_serial number revoked ≡ with_serial number (entry ∷ others) → bytes_eq entry.serial_number number ≡ true → IsFirstWith number revoked entry
  is_first revoked others entry same is = (with_serial number others, same ∙ rw is refl)

  pub goes_past : (revoked others : List (RevokedCert P)) (entry : RevokedCert P) → with_serial number revoked ≡ with_serial number (entry ∷ others) → bytes_eq entry.serial_number number ≡ false → with_serial number revoked ≡ with_serial number others
  goes_past revoked others entry same other = same ∙ rw other refl
