-- What a call that reads an input says of it.
use Rattle.std.specs.Prelude.{◌≡◌, ◌⊎◌, Result, IfOk, IfErr, MatchResult}
use Rattle.x509_sct.specs.declared.tls.error.TlsError.{TlsError}
use Rattle.x509_sct.specs.declared.tls.error.TlsError.TheVariants.{Memory}

-- The call answers the one value of the input, or its first fault; it is refused for memory only where that is wanted.
-- view is how a value is seen, and wrap the error that tells a fault.
pub record Answers {X Y E : Type 0} (view : X → Y) (wrap : TlsError → E) (IsValue : Y → Type 0) (IsFault : TlsError → Type 0) (wants : Type 0) (result : Result X E) : Type 0 where
  pub found : IfOk result (λ x. IsValue (view x))
  pub value : (y : Y) → IsValue y → MatchResult result (λ x. view x ≡ y) (λ e. (e ≡ wrap Memory) × wants)
  pub fault : IfErr result (λ e. ((e ≡ wrap Memory) × wants) ⊎ ((f : TlsError) × IsFault f × (e ≡ wrap f)))
  pub first : (f : TlsError) → IsFault f → MatchResult result (λ x. ⊥) (λ e. ((e ≡ wrap Memory) × wants) ⊎ (e ≡ wrap f))
