-- Sequences that are read element by element.
use Rattle.std.proofs.Common.{◌≡◌, ◌∙◌, ℕ, ◌<◌, true, List, [], ◌∷◌, ◌++◌, length, map, Ok, Err, refl, sym, ap, subst, append_assoc, append-nil, length-append, arith}
use Rattle.x509_der.specs.Element.{element, is_identifier}
use Rattle.x509_der.specs.ElementLaws.{piece_at-element, piece_at-sound}
use Rattle.x509_der.specs.ElementReading.{Piece, piece_at}
use Rattle.x509_der.specs.List.{joined}
use Rattle.x509_der.specs.Outcome.{IsRefusal}
use Rattle.x509_der.specs.OutcomeLaws.{ok_is}
use Rattle.x509_der.specs.TagLaws.{tag_is_identifier}
use Rattle.x509_der.specs.declared.error.ErrorKind.{ErrorKind}
use Rattle.x509_der.specs.declared.error.ErrorKind.TheVariants.{Malformed}
use Rattle.x509_der.specs.declared.tag.Tag.TheVariants.{ObjectIdentifier, Sequence}

pub sequence : is_identifier 48 ≡ true
sequence = tag_is_identifier Sequence

pub oid_identifier : is_identifier 6 ≡ true
oid_identifier = tag_is_identifier ObjectIdentifier

module _ (bytes : List ℕ) (tag : ℕ) (content rest : List ℕ) (identifier : is_identifier tag ≡ true) (is : bytes ≡ element tag content ++ rest) where
  pub there : piece_at bytes ≡ Ok (record { tag = tag; content = content; rest = rest })
  there = ap piece_at is ∙ piece_at-element tag content rest identifier

  -- what is read is what stands there
  pub read_first : (piece : Piece) → piece_at bytes ≡ Ok piece → (piece.content ≡ content) × (piece.rest ≡ rest)
  read_first piece read =
      let same = ok_is _ _ (sym read ∙ there) in
      (ap (λ (p : Piece). p.content) same, ap (λ (p : Piece). p.rest) same)

  not_refused : piece_at bytes ≡ Err Malformed → ⊥
  not_refused read = let e = sym read ∙ there in cc

  pub none_refused : (e : ErrorKind) → e ≡ Malformed → IsRefusal e (piece_at bytes) → ⊥
  none_refused e malformed refused = not_refused (subst (λ k. IsRefusal k (piece_at bytes)) malformed refused)

-- what follows an element is shorter than with it
pub shorter : (bytes : List ℕ) (piece : Piece) → piece_at bytes ≡ Ok piece → length piece.rest < length bytes
unfolding element
shorter bytes piece read =
    let whole = (piece_at-sound bytes piece read).0 in
    omega (arith, ap length whole, length-append (element piece.tag piece.content) piece.rest)

module _ {I Z : Type 0} (content : I → List ℕ) (answer : I → Z) where
  abbrev pub text : List I → List ℕ
  text items = joined (λ i. element 48 (content i)) items

  -- while sequences are gone over: what was answered of those that were passed, and what is left
  pub record Left (found : List Z) (rest : List ℕ) (items : List I) : Type 0 where
    pub left : List I
    pub all : found ++ map answer left ≡ map answer items
    pub is : rest ≡ text left

  pub begins : (bytes : List ℕ) (items : List I) → bytes ≡ text items → Left [] bytes items
  begins bytes items is = record { left = items; all = refl; is = is }

  module _ (found : List Z) (rest : List ℕ) (items : List I) where
    at_end : rest ≡ text [] → (piece : Piece) → piece_at rest ≡ Ok piece → ⊥
    unfolding joined piece_at
    at_end is piece read = let e = sym read ∙ ap piece_at is in cc

    behind_one : (i : I) (left : List I) → rest ≡ text (i ∷ left) → rest ≡ element 48 (content i) ++ text left
    unfolding joined
    behind_one i left is = is

    more : (left : List I) → found ++ map answer left ≡ map answer items → rest ≡ text left → (piece : Piece) → piece_at rest ≡ Ok piece → (z : Z)
        → ((i : I) → piece.content ≡ content i → z ≡ answer i) → Left (found ++ z ∷ []) piece.rest items
    more [] all is piece read z answers = absurd (at_end is piece read)
    more (i ∷ left) all is piece read z answers =
        let first = read_first rest 48 (content i) (text left) sequence (behind_one i left is) piece read in
        record { left = left; all = append_assoc found (z ∷ []) (map answer left) ∙ ap (λ y. found ++ y ∷ map answer left) (answers i first.0) ∙ all; is = first.1 }

    pub one_more : Left found rest items → (piece : Piece) → piece_at rest ≡ Ok piece → (z : Z) → ((i : I) → piece.content ≡ content i → z ≡ answer i) → Left (found ++ z ∷ []) piece.rest items
    one_more l piece read z answers = more l.left l.all l.is piece read z answers

    ended : (left : List I) → found ++ map answer left ≡ map answer items → rest ≡ text left → (e : ErrorKind) → e ≡ Malformed → IsRefusal e (piece_at rest) → found ≡ map answer items
    ended [] all is e malformed refused = sym (append-nil found) ∙ all
    ended (i ∷ left) all is e malformed refused = absurd (none_refused rest 48 (content i) (text left) sequence (behind_one i left is) e malformed refused)

    pub done : Left found rest items → (e : ErrorKind) → e ≡ Malformed → IsRefusal e (piece_at rest) → found ≡ map answer items
    done l e malformed refused = ended l.left l.all l.is e malformed refused
