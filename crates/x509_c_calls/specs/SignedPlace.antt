-- What a call leaves that says where the signed part stands.
use Rattle.std.specs.Prelude.{◌≡◌, ℕ, List}
use Rattle.x509_c_calls.specs.Place.{IsAt}
use Rattle.x509_c_calls.specs.declared.place.span.Span.{Span}
use Rattle.x509_c_calls.specs.declared.status.status.Status.{Status}
use Rattle.x509_c_calls.specs.declared.status.status.Status.TheVariants.{Done, Refused}
use Rattle.x509_cert.specs.Signed.{IsSignedPart}
use Rattle.x509_der.specs.declared.error.ErrorKind.TheVariants.{Malformed}

-- Done: the signed part stands there, and behind it what follows it in the whole. Refused: there is none, and the span is as it was.
unfoldable pub IsSignedAt : List ℕ → Span → Span → Status → Type 0
IsSignedAt bytes was is Done = (signed : List ℕ) × (part : IsSignedPart bytes signed) × IsAt signed part.behind bytes is
IsSignedAt bytes was is (Refused e) = (e ≡ Malformed) × ((signed : List ℕ) → IsSignedPart bytes signed → ⊥) × (is ≡ was)
IsSignedAt bytes was is _ = ⊥
