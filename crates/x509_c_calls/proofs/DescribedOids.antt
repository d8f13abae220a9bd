-- Pieces that are no OIDs.
use Rattle.std.proofs.Common.{◌≡◌, ◌<◌, ◌⊎◌, ℕ, List, length, Any, map, get_or, inl, inr, arith}
use Rattle.std.proofs.lemmas.List.{get_or-map, length-map}
use Rattle.std.specs.Borrow.{Bor}
use Rattle.x509_c_calls.specs.BuildMembers.{IsOid}
use Rattle.x509_c_calls.specs.Described.{RefusesPurposes}
use Rattle.x509_c_calls.specs.Pieces.{AreCut}
use Rattle.x509_der.specs.declared.error.ErrorKind.{ErrorKind}
use Rattle.x509_der.specs.declared.error.ErrorKind.TheVariants.{Malformed, Memory}

-- one of the pieces is none
pub none_stands : (pieces : List (Bor (List ℕ))) (i : ℕ) (d : Bor (List ℕ)) → i < length pieces → (IsOid (get_or pieces i d).now → ⊥)
    → Any (λ piece. IsOid piece → ⊥) (map (λ piece. piece.now) pieces)
none_stands pieces i d within none =
    (i, (get_or pieces i d).now, omega (arith, within, length-map pieces (λ (piece : Bor (List ℕ)). piece.now)), get_or-map (λ (piece : Bor (List ℕ)). piece.now) pieces i d _ within, none)

-- so they are refused as purposes
pub refuses_oids : (bytes lens : List ℕ) (lent pieces : List (Bor (List ℕ))) (e : ErrorKind) → lent ≡ pieces → AreCut bytes lens (map (λ piece. piece.now) pieces)
    → (e ≡ Memory) ⊎ ((e ≡ Malformed) × Any (λ piece. IsOid piece → ⊥) (map (λ piece. piece.now) lent)) → (e ≡ Memory) ⊎ RefusesPurposes bytes lens e
refuses_oids bytes lens lent pieces e same cut (inl memory) = inl memory
refuses_oids bytes lens lent pieces e same cut (inr (malformed, none)) = let stands = rw same at none in inr (inr (inr (malformed, (map (λ piece. piece.now) pieces, cut, stands))))
