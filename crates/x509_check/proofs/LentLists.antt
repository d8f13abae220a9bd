-- Lists that are lent member by member.
use Rattle.std.proofs.Common.{◌≡◌, ◌≤◌, ℕ, List, [], ◌∷◌, length, Result, Ok, Err, refl, sym, ap, ◌∙◌, arith}
use Rattle.std.specs.Prelude.{IsOk}
use Rattle.x509_check.specs.Lending.{listed}
use Rattle.x509_der.specs.ElementReading.{Piece, piece_at}
use Rattle.x509_der.specs.ElementLaws.{piece_at-whole}
use Rattle.x509_der.specs.declared.error.ErrorKind.{ErrorKind}
use Rattle.x509_der.specs.declared.error.ErrorKind.TheVariants.{Malformed}
use Rattle.x509_der.specs.declared.error.ErrorKind.TheVariants as errors
use Rattle.x509_der.specs.declared.tag.Tag.TheVariants.{Sequence}
use Rattle.x509_der.specs.Form.{Form, IsForm, Spells, spelling, universal}
use Rattle.x509_der.specs.Frames.{field_at}
use Rattle.x509_der.specs.List.{joined, list_of, list_reading, with_front}
use Rattle.x509_der.specs.ListLaws.{list_lawful, first_read, none_read, ends, no_front}
use Rattle.x509_der.specs.Outcome.{IsRefusal}
use Rattle.x509_der.specs.OutcomeLaws.{ok_is}
use Rattle.x509_der.specs.TagLaws.{tag_is_identifier}

abbrev read_list : {X : Type 0} → List X → Result (List X) ErrorKind
read_list xs = Ok xs

-- ---- one member further

one_front : {X : Type 0} (v : X) (others whole : Result (List X) ErrorKind) → with_front (v ∷ []) others ≡ whole → IsOk whole → (listed whole ≡ v ∷ listed others) × IsOk others
one_front v (Ok xs) (Ok ys) e ok = (sym (ok_is (v ∷ xs) ys e), refl)
one_front v (Ok xs) (Err d) e ok = absurd cc
one_front v (Err c) (Ok ys) e ok = absurd cc
one_front v (Err c) (Err d) e ok = absurd cc

refused_list : {X : Type 0} (whole : Result (List X) ErrorKind) (e : ErrorKind) → whole ≡ Err e → IsOk whole → listed whole ≡ []
refused_list (Ok xs) e h ok = absurd cc
refused_list (Err d) e h ok = absurd cc

-- what is read is what is listed
pub listed_is : {X : Type 0} (reading : Result (List X) ErrorKind) → IsOk reading → reading ≡ Ok (listed reading)
listed_is (Ok xs) ok = refl
listed_is (Err d) ok = absurd cc

module _ {X : Type 0} (read : ℕ → List ℕ → Result X ErrorKind) where
  -- where a member stands at the front, it is the first, and the others stand behind it
  pub first_left : (bytes rest : List ℕ) (v : X) → field_at read bytes ≡ Ok (v, rest) → IsOk (list_reading read bytes) → (listed (list_reading read bytes) ≡ v ∷ listed (list_reading read rest)) × IsOk (list_reading read rest)
  first_left bytes rest v e ok = one_front v (list_reading read rest) (list_reading read bytes) (first_read read bytes rest v e) ok

  -- where none stands there, none is left
  pub none_further : (bytes : List ℕ) (e : ErrorKind) → field_at read bytes ≡ Err e → IsOk (list_reading read bytes) → listed (list_reading read bytes) ≡ []
  none_further [] e h ok = ap listed (none_read read [] refl)
  none_further (b ∷ bytes) e h ok = refused_list (list_reading read (b ∷ bytes)) e (ends read [] (b ∷ bytes) e (list_reading read (b ∷ bytes)) h (omega arith) (no_front (list_reading read (b ∷ bytes)))) ok

  -- one stands at the front where any are left
  some_first : (bytes : List ℕ) (r : Result (X × List ℕ) ErrorKind) → field_at read bytes ≡ r → 1 ≤ length bytes → IsOk (list_reading read bytes) → (v : X) × (rest : List ℕ) × (field_at read bytes ≡ Ok (v, rest))
  some_first bytes (Ok x) e some ok = (x.0, x.1, e)
  some_first bytes (Err d) e some ok = absurd (let none = ends read [] bytes d (list_reading read bytes) e (omega arith) (no_front (list_reading read bytes)) in let k = sym none ∙ listed_is (list_reading read bytes) ok in cc)

  pub first_of : (bytes : List ℕ) → 1 ≤ length bytes → IsOk (list_reading read bytes) → (v : X) × (rest : List ℕ) × (field_at read bytes ≡ Ok (v, rest))
  first_of bytes some ok = some_first bytes (field_at read bytes) refl some ok

-- ---- the content of a list

-- the content of a list's element is its members, one after the other
pub members_read : {X : Type 0} {R : ErrorKind → Type 0} (f : Form X) (h : IsForm R f) (list : List X) (bytes : List ℕ) (piece : Piece) → Spells (universal Sequence (list_of f)) list bytes → piece_at bytes ≡ Ok piece → list_reading f.reading piece.content ≡ Ok list
members_read f h list bytes piece s p =
    let whole = piece_at-whole 0x30 (joined (spelling f) list) (tag_is_identifier Sequence) in
    let same = ok_is _ _ (sym p ∙ ap piece_at s.1 ∙ whole) in
    ap (λ (q : Piece). list_reading f.reading q.content) same ∙ (list_lawful f h).complete list s.0

some_piece : {X : Type 0} (f : Form X) (list : List X) (bytes : List ℕ) (e : ErrorKind) → Spells (universal Sequence (list_of f)) list bytes → piece_at bytes ≡ Err e → ⊥
some_piece f list bytes e s p = let k = sym p ∙ ap piece_at s.1 ∙ piece_at-whole 0x30 (joined (spelling f) list) (tag_is_identifier Sequence) in cc

pub no_piece : {X : Type 0} (f : Form X) (list : List X) (bytes : List ℕ) (e : ErrorKind) → Spells (universal Sequence (list_of f)) list bytes → IsRefusal e (piece_at bytes) → e ≡ Malformed → ⊥
no_piece f list bytes errors.Malformed s h same = some_piece f list bytes Malformed s h
no_piece f list bytes errors.Memory s h same = absurd cc
no_piece f list bytes errors.Overlength s h same = absurd cc
no_piece f list bytes errors.Failed s h same = absurd cc
no_piece f list bytes errors.SetDuplicate s h same = absurd cc
no_piece f list bytes errors.Value s h same = absurd cc

pub is_list : {X : Type 0} (reading : Result (List X) ErrorKind) (list : List X) → reading ≡ Ok list → IsOk reading × (listed reading ≡ list)
is_list (Ok xs) list e = (refl, ok_is xs list e)
is_list (Err d) list e = absurd cc

-- ---- the members that are read spell the bytes

read_is : {X : Type 0} {R : ErrorKind → Type 0} (f : Form X) (h : IsForm R f) (bytes : List ℕ) (reading : Result (List X) ErrorKind) → list_reading f.reading bytes ≡ reading → IsOk reading → bytes ≡ joined (spelling f) (listed reading)
read_is f h bytes (Ok xs) e ok = ((list_lawful f h).sound bytes xs e).1
read_is f h bytes (Err d) e ok = absurd cc

pub spelled_by : {X : Type 0} {R : ErrorKind → Type 0} (f : Form X) (h : IsForm R f) (bytes : List ℕ) → IsOk (list_reading f.reading bytes) → bytes ≡ joined (spelling f) (listed (list_reading f.reading bytes))
spelled_by f h bytes ok = read_is f h bytes (list_reading f.reading bytes) refl ok
