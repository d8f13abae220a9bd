-- Writing down where elements begin.
use Rattle.std.proofs.Common.{◌≡◌, ◌∙◌, ℕ, zero, suc, ◌+◌, ◌-◌, ◌<◌, ◌≤◌, List, [], ◌∷◌, ◌++◌, length, take, drop, set, Ok, Err, sym, ap, append_assoc, arith, length-append}
use Rattle.std.proofs.Math.ListN.{drop_of_length-le}
use Rattle.std.proofs.lemmas.List.{append-nil, length-take-le, nil_from_length, take_all, take_more_set}
use Rattle.x509_crl_index.specs.Places.{places_at}
use Rattle.x509_der.specs.Element.{element, length_octets}
use Rattle.x509_der.specs.ElementLaws.{piece_at-sound}
use Rattle.x509_der.specs.ElementReading.{Piece, piece_at}
use Rattle.x509_der.specs.declared.error.ErrorKind.{ErrorKind}

-- nothing stands behind the last octet
pub none_behind : (octets : List ℕ) (place : ℕ) → length octets < place → [] ≡ drop place octets
none_behind octets place past =
    let past_end : length octets ≤ place = omega arith in
    sym (drop_of_length-le octets {i = place} past_end)

-- what follows an element is shorter
pub rest_shorter : (bytes : List ℕ) (piece : Piece) → piece_at bytes ≡ Ok piece → length piece.rest < length bytes
unfolding element
rest_shorter bytes piece p = omega (arith, ap length (piece_at-sound bytes piece p).0, length-append (element piece.tag piece.content) piece.rest)

-- and so is its content
pub content_shorter : (bytes : List ℕ) (piece : Piece) → piece_at bytes ≡ Ok piece → length piece.content ≤ length bytes
unfolding element
content_shorter bytes piece p = omega (arith, ap length (piece_at-sound bytes piece p).0, length-append (element piece.tag piece.content) piece.rest, length-append (length_octets (length piece.content)) piece.content)

module _ (total i : ℕ) (all places rest : List ℕ) (less : i < length places) (long : length places ≡ length all) where
  -- where places are wanted still, an element stands there
  pub not_none : (n : ℕ) (e : ErrorKind) → take i places ++ places_at n total rest ≡ all → piece_at rest ≡ Err e → ⊥
  unfolding places_at
  not_none zero e h p = omega (arith, ap length h, length-append (take i places) [], length-take-le i places (omega arith))
  not_none (suc n) e h p = let same : take i places ++ [] ≡ all = rw p at h in omega (arith, ap length same, length-append (take i places) [], length-take-le i places (omega arith))

  -- one place more
  pub one_more : (n m : ℕ) (piece : Piece) → m ≡ n - 1 → take i places ++ places_at n total rest ≡ all → piece_at rest ≡ Ok piece
      → take (i + 1) (set places i (total - length rest)) ++ places_at m total piece.rest ≡ all
  unfolding places_at
  one_more zero m piece is h p = absurd (omega (arith, ap length h, length-append (take i places) [], length-take-le i places (omega arith)))
  one_more (suc n) m piece is h p =
      let same : take i places ++ (total - length rest) ∷ places_at n total piece.rest ≡ all = rw p at h in
      let fewer : m ≡ n = omega arith in
      rw (take_more_set places i (total - length rest) less, append_assoc (take i places) ((total - length rest) ∷ []) (places_at m total piece.rest), fewer) same

-- all of them
pub all_put : (all places more : List ℕ) (i : ℕ) → take i places ++ more ≡ all → length places ≤ i → length places ≡ length all → places ≡ all
all_put all places more i h end long =
    let whole : take i places ≡ places = take_all i places end in
    let same : places ++ more ≡ all = ap (λ front. front ++ more) (sym whole) ∙ h in
    let none : more ≡ [] = nil_from_length more (omega (arith, ap length same, length-append places more)) in
    sym (append-nil places) ∙ ap (λ behind. places ++ behind) (sym none) ∙ same
