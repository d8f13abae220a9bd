-- Counting elements.
use Rattle.std.proofs.Common.{◌≡◌, ℕ, zero, suc, ◌+◌, ◌-◌, ◌≤◌, List, ◌∷◌, length, Ok, Err, refl, arith}
use Rattle.x509_crl_index.proofs.Putting.{rest_shorter}
use Rattle.x509_crl_index.specs.Places.{places_at}
use Rattle.x509_der.specs.ElementReading.{Piece, piece_at}
use Rattle.x509_der.specs.declared.error.ErrorKind.{ErrorKind}

-- one more
pub count_more : (total count all : ℕ) (rest : List ℕ) (piece : Piece) (n m : ℕ) → m ≡ n - 1 → length rest ≤ n → count + length (places_at n total rest) ≡ all → piece_at rest ≡ Ok piece
    → count + 1 + length (places_at m total piece.rest) ≡ all
unfolding places_at
count_more total count all rest piece zero m is enough h p = absurd (omega (arith, rest_shorter rest piece p, enough))
count_more total count all rest piece (suc n) m is enough h p =
    let same : count + length ((total - length rest) ∷ places_at n total piece.rest) ≡ all = rw p at h in
    let fewer : m ≡ n = omega arith in
    rw fewer (omega (arith, same))

-- no more
pub count_none : (total : ℕ) (rest : List ℕ) (e : ErrorKind) (n : ℕ) → piece_at rest ≡ Err e → length (places_at n total rest) ≡ 0
unfolding places_at
count_none total rest e zero p = refl
count_none total rest e (suc n) p = rw p refl
