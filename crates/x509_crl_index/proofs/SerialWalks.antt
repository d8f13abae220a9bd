-- The serial numbers of entries, taken one after the other.
use Rattle.std.proofs.Common.{◌≡◌, ◌∙◌, ℕ, List, [], ◌∷◌, ◌++◌, Ok, Err, refl, sym, ap, append_assoc, append-nil}
use Rattle.std.proofs.lemmas.List.{map-append}
use Rattle.std.specs.Borrow.{Bor}
use Rattle.x509_base.specs.declared.profile.Raw.{Raw}
use Rattle.x509_cert.specs.AnySerial.{any_revoked_cert}
use Rattle.x509_cert.specs.Respelling.{no_check}
use Rattle.x509_cert.specs.RevokedCert.{revoked_cert_lawful}
use Rattle.x509_cert.specs.declared.crl.revoked_cert.RevokedCert.{RevokedCert}
use Rattle.x509_crl_index.proofs.Entries.{number_first}
use Rattle.x509_crl_index.specs.Places.{front_content}
use Rattle.x509_crl_index.specs.Split.{lent_octets, read_entries, serials}
use Rattle.x509_der.specs.ElementLaws.{piece_at-element}
use Rattle.x509_der.specs.ElementReading.{Piece, piece_at}
use Rattle.x509_der.specs.Form.{Form, spelling}
use Rattle.x509_der.specs.List.{all_good, joined}
use Rattle.x509_der.specs.ListLaws.{list_lawful}
use Rattle.x509_der.specs.OutcomeLaws.{ok_is}
use Rattle.x509_der.specs.declared.error.ErrorKind.{ErrorKind}

abbrev form : Form (RevokedCert Raw)
form = any_revoked_cert

-- the first entry, and the others
pub record First (left : List (RevokedCert Raw)) (piece : Piece) : Type 0 where
  pub entry : RevokedCert Raw
  pub behind : List (RevokedCert Raw)
  pub left_is : left ≡ entry ∷ behind
  pub number : front_content piece.content ≡ entry.serial_number
  pub read : read_entries piece.rest ≡ Ok behind

spelled_first : (left : List (RevokedCert Raw)) (rest : List ℕ) (piece : Piece) → all_good form.good left → rest ≡ joined (spelling form) left → piece_at rest ≡ Ok piece → First left piece
unfolding all_good joined piece_at
spelled_first [] rest piece good is at = absurd (let none : piece_at [] ≡ Ok piece = rw is at at in cc)
spelled_first (e ∷ behind) rest piece good is at =
    let lawful = revoked_cert_lawful no_check in
    let found : piece_at rest ≡ Ok (record { tag = form.tag e; content = form.content e; rest = joined (spelling form) behind }) =
    ap piece_at is ∙ piece_at-element (form.tag e) (form.content e) (joined (spelling form) behind) (lawful.tagged e good.0).1 in
    let same = ok_is piece (record { tag = form.tag e; content = form.content e; rest = joined (spelling form) behind }) (sym at ∙ found) in record {
      entry = e;
      behind = behind;
      left_is = refl;
      number = ap (λ (p : Piece). front_content p.content) same ∙ number_first Raw no_check e good.0;
      read = ap (λ (p : Piece). read_entries p.rest) same ∙ (list_lawful form lawful).complete behind good.1;
    }

pub first : (left : List (RevokedCert Raw)) (rest : List ℕ) (piece : Piece) → read_entries rest ≡ Ok left → piece_at rest ≡ Ok piece → First left piece
first left rest piece read at =
    let s = (list_lawful form (revoked_cert_lawful no_check)).sound rest left read in
    spelled_first left rest piece s.0 s.1 at

none_spelled : (left : List (RevokedCert Raw)) (rest : List ℕ) (e : ErrorKind) → all_good form.good left → rest ≡ joined (spelling form) left → piece_at rest ≡ Err e → left ≡ []
unfolding all_good joined
none_spelled [] rest e good is at = refl
none_spelled (v ∷ behind) rest e good is at =
    let found = ap piece_at is ∙ piece_at-element (form.tag v) (form.content v) (joined (spelling form) behind) ((revoked_cert_lawful no_check).tagged v good.0).1 in
    absurd cc

none : (left : List (RevokedCert Raw)) (rest : List ℕ) (e : ErrorKind) → read_entries rest ≡ Ok left → piece_at rest ≡ Err e → left ≡ []
none left rest e read at =
    let s = (list_lawful form (revoked_cert_lawful no_check)).sound rest left read in
    none_spelled left rest e s.0 s.1 at

-- ---- the walk

-- the entries that are left, and that the numbers taken and theirs are those of all
pub record Left (numbers : List (Bor (List ℕ))) (rest : List ℕ) (all : List (RevokedCert Raw)) : Type 0 where
  pub left : List (RevokedCert Raw)
  pub read : read_entries rest ≡ Ok left
  pub same : lent_octets numbers ++ serials left ≡ serials all

abbrev pub Walk : List (Bor (List ℕ)) → List ℕ → List ℕ → Type 0
Walk numbers rest octets = (all : List (RevokedCert Raw)) → read_entries octets ≡ Ok all → Left numbers rest all

pub starts : (octets : List ℕ) → Walk [] octets octets
starts octets = λ all read. record { left = all; read = read; same = refl }

pub goes_on : (numbers more : List (Bor (List ℕ))) (number : Bor (List ℕ)) (rest octets : List ℕ) (piece : Piece) → more ≡ numbers ++ number ∷ [] → number.now ≡ front_content piece.content
    → piece_at rest ≡ Ok piece → Walk numbers rest octets → Walk more piece.rest octets
goes_on numbers more number rest octets piece pushed is at walk = λ all read.
    let l = walk all read in
    let f = first l.left rest piece l.read at in record {
      left = f.behind;
      read = f.read;
      same =
          ap (λ xs. lent_octets xs ++ serials f.behind) pushed
          ∙ ap (λ xs. xs ++ serials f.behind) (map-append (λ (slice : Bor (List ℕ)). slice.now) numbers (number ∷ []))
          ∙ append_assoc (lent_octets numbers) (number.now ∷ []) (serials f.behind)
          ∙ ap (λ octets. lent_octets numbers ++ octets ∷ serials f.behind) (is ∙ f.number)
          ∙ ap (λ entries. lent_octets numbers ++ serials entries) (sym f.left_is)
          ∙ l.same;
    }

pub ends : (numbers : List (Bor (List ℕ))) (rest octets : List ℕ) (e : ErrorKind) → piece_at rest ≡ Err e → Walk numbers rest octets
    → (all : List (RevokedCert Raw)) → read_entries octets ≡ Ok all → lent_octets numbers ≡ serials all
ends numbers rest octets e at walk = λ all read.
    let l = walk all read in
    sym (append-nil (lent_octets numbers)) ∙ ap (λ entries. lent_octets numbers ++ serials entries) (sym (none l.left rest e l.read at)) ∙ l.same
