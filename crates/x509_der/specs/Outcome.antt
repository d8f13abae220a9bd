-- Steps that may be refused, and what a call answers: what reading gives, unless it ran out of memory.
use Rattle.std.specs.Prelude.{◌≡◌, ℕ, List, Result, Ok, Err, MatchResult}
use Rattle.x509_der.specs.declared.error.Error.{Error}
use Rattle.x509_der.specs.declared.error.ErrorKind.{ErrorKind}
use Rattle.x509_der.specs.declared.error.ErrorKind.TheVariants.{Memory, Overlength, Malformed, Failed, SetDuplicate, Value}

-- what follows a step, unless it is refused
infixl 10 ◌>>=◌
abbrev pub ◌>>=◌ : {A B : Type 0} → Result A ErrorKind → (A → Result B ErrorKind) → Result B ErrorKind
(Ok x) >>= f = f x
(Err e) >>= f = Err e

-- a call that was refused so: memory may always be wanted, any other refusal is that of reading
abbrev pub IsRefusal : {X : Type 0} → ErrorKind → Result X ErrorKind → Type 0
IsRefusal Memory reading = Unit {0}
IsRefusal Overlength reading = reading ≡ Err Overlength
IsRefusal Malformed reading = reading ≡ Err Malformed
IsRefusal Failed reading = reading ≡ Err Failed
IsRefusal SetDuplicate reading = reading ≡ Err SetDuplicate
IsRefusal Value reading = reading ≡ Err Value

-- a call answers, seen by view, what reading gives
abbrev pub GivesBy : {X Y : Type 0} → (X → Y) → Result X Error → Result Y ErrorKind → Type 0
GivesBy view (Ok x) reading = reading ≡ Ok (view x)
GivesBy view (Err e) reading = IsRefusal e.kind reading

abbrev pub Gives : {X : Type 0} → Result X Error → Result X ErrorKind → Type 0
Gives result reading = GivesBy (λ x. x) result reading

-- a call answers the value that was read, and leaves what follows it
abbrev pub GivesBefore : {X : Type 0} → Result X Error → List ℕ → Result (X × List ℕ) ErrorKind → Type 0
GivesBefore (Ok x) rest reading = reading ≡ Ok (x, rest)
GivesBefore (Err e) rest reading = IsRefusal e.kind reading

-- a call that takes no memory answers what the definition says
abbrev pub Answers : {X : Type 0} → Result X Error → Result X ErrorKind → Type 0
Answers result answer = MatchResult result (λ x. answer ≡ Ok x) (λ e. answer ≡ Err e.kind)
