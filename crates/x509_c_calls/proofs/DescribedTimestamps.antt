-- Timestamps that are too long.
use Rattle.std.proofs.Common.{◌≡◌, ◌<◌, ◌⊎◌, ℕ, zero, suc, List, [], ◌∷◌, length, Any, map, get_or, ap, inl, inr, length-append, arith}
use Rattle.std.proofs.lemmas.List.{get_or-map, length-map}
use Rattle.std.specs.Borrow.{Bor}
use Rattle.x509_c_calls.specs.DescribedTimestamps.{RefusesTimestampList}
use Rattle.x509_c_calls.specs.Pieces.{AreCut}
use Rattle.x509_der.specs.declared.error.ErrorKind.{ErrorKind}
use Rattle.x509_der.specs.declared.error.ErrorKind.TheVariants.{Memory, Overlength}
use Rattle.x509_sct.specs.Items.{joined}
use Rattle.x509_sct.specs.Numbers.{uint16, vector16}

-- one of the pieces is too long
pub long_stands : (pieces : List (Bor (List ℕ))) (i : ℕ) (d : Bor (List ℕ)) → i < length pieces → 65535 < length (get_or pieces i d).now
    → Any (λ piece. 65535 < length piece) (map (λ piece. piece.now) pieces)
long_stands pieces i d within long =
    (i, (get_or pieces i d).now, omega (arith, within, length-map pieces (λ (piece : Bor (List ℕ)). piece.now)), get_or-map (λ (piece : Bor (List ℕ)). piece.now) pieces i d _ within, long)

-- so all of them are, with their lengths
too_long : (pieces : List (List ℕ)) → Any (λ piece. 65535 < length piece) pieces → 65535 < length (joined vector16 pieces)
too_long [] (k, x, less, is, long) = absurd (omega (arith, less))
too_long (piece ∷ pieces) (zero, x, less, is, long) =
    omega (arith, length-append (vector16.bytes piece) (joined vector16 pieces), length-append (uint16.bytes (length piece)) piece, ap (λ (p : List ℕ). length p) is, long)
too_long (piece ∷ pieces) (suc k, x, less, is, long) =
    omega (arith, length-append (vector16.bytes piece) (joined vector16 pieces), too_long pieces (k, x, omega (arith, less), is, long))

-- and they are refused as a list
pub refuses_long : (bytes lens : List ℕ) (lent pieces : List (Bor (List ℕ))) (e : ErrorKind) → lent ≡ pieces → AreCut bytes lens (map (λ piece. piece.now) pieces)
    → (e ≡ Memory) ⊎ ((e ≡ Overlength) × Any (λ piece. 65535 < length piece) (map (λ piece. piece.now) lent)) → (e ≡ Memory) ⊎ RefusesTimestampList bytes lens e
refuses_long bytes lens lent pieces e same cut (inl memory) = inl memory
refuses_long bytes lens lent pieces e same cut (inr (overlong, long)) =
    let stands = rw same at long in
    inr (inr (inr (overlong, (map (λ piece. piece.now) pieces, cut, too_long (map (λ piece. piece.now) pieces) stands))))
