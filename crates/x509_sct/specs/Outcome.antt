-- Steps that may be refused, and what a call answers: what reading gives, unless memory was refused.
use Rattle.std.specs.Prelude.{◌≡◌, Result, Ok, Err}
use Rattle.x509_sct.specs.declared.tls.error.TlsError.{TlsError}
use Rattle.x509_sct.specs.declared.tls.error.TlsError.TheVariants.{EndOfStream, UnknownValue, TrailingData, InvalidVectorLength, Memory}

-- what follows a step, unless it is refused
infixl 10 ◌>>=◌
abbrev pub ◌>>=◌ : {A B : Type 0} → Result A TlsError → (A → Result B TlsError) → Result B TlsError
(Ok x) >>= f = f x
(Err e) >>= f = Err e

-- a call that was refused so: memory may always be wanted, any other refusal is that of reading
abbrev pub IsRefusal : {X : Type 0} → TlsError → Result X TlsError → Type 0
IsRefusal Memory reading = Unit {0}
IsRefusal EndOfStream reading = reading ≡ Err EndOfStream
IsRefusal (UnknownValue n) reading = reading ≡ Err (UnknownValue n)
IsRefusal TrailingData reading = reading ≡ Err TrailingData
IsRefusal InvalidVectorLength reading = reading ≡ Err InvalidVectorLength

-- a call answers, seen by view, what reading gives
abbrev pub GivesBy : {X Y : Type 0} → (X → Y) → Result X TlsError → Result Y TlsError → Type 0
GivesBy view (Ok x) reading = reading ≡ Ok (view x)
GivesBy view (Err e) reading = IsRefusal e reading
