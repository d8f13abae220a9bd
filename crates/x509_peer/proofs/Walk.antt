-- The general names of a list, one after the other.
use Rattle.std.proofs.Common.{◌≡◌, ℕ, ◌≤◌, List, [], ◌∷◌, length, Ok, refl, sym, subst, ap, ◌∙◌, arith}
use Rattle.std.specs.Prelude.{IsOk}
use Rattle.x509_check.proofs.KnownEntries.{not_refused, piece_of_field}
use Rattle.x509_check.proofs.LentLists.{first_left, first_of, is_list}
use Rattle.x509_check.specs.Lending.{listed}
use Rattle.x509_der.specs.ElementReading.{Piece, piece_at}
use Rattle.x509_der.specs.Frames.{field_at}
use Rattle.x509_der.specs.List.{list_reading}
use Rattle.x509_der.specs.ListLaws.{none_read}
use Rattle.x509_der.specs.Outcome.{◌>>=◌}
use Rattle.x509_der.specs.OutcomeLaws.{bind_ok, ok_is}
use Rattle.x509_ext.specs.GeneralName.{general_name}
use Rattle.x509_ext.specs.declared.pkix.name.general_name.GeneralName.{GeneralName}

-- the name at the front, and those behind it
pub record IsFirst (rest : List ℕ) (piece : Piece) : Type 0 where
  pub first : GeneralName
  pub read : general_name.reading piece.tag piece.content ≡ Ok first
  pub list : listed (list_reading general_name.reading rest) ≡ first ∷ listed (list_reading general_name.reading piece.rest)
  pub known : IsOk (list_reading general_name.reading piece.rest)

pub is_first : (rest : List ℕ) (piece : Piece) → piece_at rest ≡ Ok piece → 1 ≤ length rest → IsOk (list_reading general_name.reading rest) → IsFirst rest piece
unfolding field_at
is_first rest piece p some ok =
    let front = first_of general_name.reading rest some ok in
    let a = bind_ok (piece_at rest) (λ q. general_name.reading q.tag q.content >>= λ v. Ok (v, q.rest)) (front.0, front.1) front.2 in
    let b = bind_ok (general_name.reading a.0.tag a.0.content) (λ v. Ok (v, a.0.rest)) (front.0, front.1) a.2 in
    let same : a.0 ≡ piece = ok_is _ _ (sym a.1 ∙ p) in
    let parts = ok_is _ _ b.2 in
    let value : b.0 ≡ front.0 = ap (λ x. x.0) parts in
    let behind : piece.rest ≡ front.1 = ap (λ (q : Piece). q.rest) (sym same) ∙ ap (λ x. x.1) parts in
    let left = first_left general_name.reading rest front.1 front.0 front.2 ok in record {
      first = front.0;
      read = ap (λ (q : Piece). general_name.reading q.tag q.content) (sym same) ∙ b.1 ∙ ap Ok value;
      list = left.0 ∙ ap (λ r. front.0 ∷ listed (list_reading general_name.reading r)) (sym behind);
      known = subst (λ r. IsOk (list_reading general_name.reading r)) (sym behind) left.1;
    }

-- an element stands where any are left
pub some_name : (rest : List ℕ) → 1 ≤ length rest → IsOk (list_reading general_name.reading rest) → (piece : Piece) × (piece_at rest ≡ Ok piece)
some_name rest some ok = let front = first_of general_name.reading rest some ok in piece_of_field general_name.reading rest front.1 front.0 front.2

-- none is left where nothing is
pub no_name : (rest : List ℕ) → length rest ≡ 0 → listed (list_reading general_name.reading rest) ≡ []
no_name rest none = (is_list _ [] (none_read general_name.reading rest none)).1
