-- A content that is put on its own.
use Rattle.std.proofs.Common.{◌≡◌, ◌⊎◌, ℕ, ◌+◌, ◌<◌, List, [], length, Option, Some, Err, inl, inr, arith, length-append}
use Rattle.x509_der.specs.declared.error.Error.{Error}
use Rattle.x509_der.specs.declared.error.ErrorKind.{ErrorKind}
use Rattle.x509_der.specs.declared.error.ErrorKind.TheVariants as errors
use Rattle.x509_der.specs.Element.{element, length_octets, limit}
use Rattle.x509_der.specs.GrowingRoom.{growing}
use Rattle.x509_der.specs.Writing.{Puts}

longer : (t : ℕ) (c : List ℕ) → limit < length c → limit < length (element t c)
unfolding element
longer t c h = omega (arith, h, length-append (length_octets (length c)) c)

-- why it was refused
pub content_refused : (t : ℕ) (c : List ℕ) (q : Option ErrorKind) (e : Error) (new : List ℕ) → Puts growing c q (Err e) [] new → (e.kind ≡ errors.Memory) ⊎ ((q ≡ Some e.kind) ⊎ ((e.kind ≡ errors.Overlength) × (limit < length (element t c))))
content_refused t c q e new (inl m) = inl m.0
content_refused t c q e new (inr (inl o)) = let long : limit < length c + 0 = o.1 in inr (inr (o.0, longer t c (omega (arith, long))))
content_refused t c q e new (inr (inr d)) = inr (inl d)
