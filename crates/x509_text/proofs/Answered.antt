-- What a call that reads an encoding of TLS answers is what reading gives.
use Rattle.std.proofs.Common.{◌≡◌, ◌≢◌, inl, inr, Some, None, Result, Ok, Err, refl}
use Rattle.x509_sct.specs.AnswerLaws.{IsReading}
use Rattle.x509_sct.specs.Answers.{Answers}
use Rattle.x509_sct.specs.declared.tls.error.TlsError.{TlsError}
use Rattle.x509_sct.specs.declared.tls.error.TlsError.TheVariants.{Memory}
use Rattle.x509_text.specs.Timestamps.{value_read}

module _ {X Y : Type 0} (view : X → Y) (IsValue : Y → Type 0) (IsFault : TlsError → Type 0) (reading : Result Y TlsError) (law : IsReading IsValue IsFault reading) where
  -- a value that is answered is the one that is read
  pub answered_value : (x : X) → Answers {E = TlsError} view (λ e. e) IsValue IsFault Unit (Ok x) → Some (view x) ≡ value_read reading
  answered_value x answer = rw (law.complete (view x) answer.found) refl

  -- where another error than Memory is answered, none is read
  pub answered_fault : (e : TlsError) → e ≢ Memory → Answers {X = X} {E = TlsError} view (λ e. e) IsValue IsFault Unit (Err e) → None ≡ value_read reading
  answered_fault e other answer =
      elim answer.fault [
        | inl memory ↦ absurd (other memory.0)
        | inr fault ↦ rw (law.first fault.0 fault.1) refl
      ]
