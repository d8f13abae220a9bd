-- A table of types by their names.
use Rattle.std.specs.Prelude.{◌≡◌, ◌⊎◌, ℕ, List, Bool, true, false, Result, Ok, Err, MatchResult}
use Rattle.std.specs.Str.{bytes_eq}
use Rattle.x509_der.specs.declared.error.Error.{Error}
use Rattle.x509_der.specs.declared.error.ErrorKind.{ErrorKind}
use Rattle.x509_der.specs.declared.error.ErrorKind.TheVariants.{Memory, Failed}
use Rattle.x509_codec.specs.declared.profile_name.ProfileName.{ProfileName}
use Rattle.x509_codec.specs.declared.profile_name.ProfileName.TheVariants.{Rfc5280, Raw}

infixr 5 ◌otherwise◌
-- which answers there may be, memory aside
abbrev pub Answers : Type 1
Answers = Result (List ℕ) ErrorKind → Type 0

-- that a call's result, its bytes seen by view, is one of these answers, or that memory was refused
unfoldable pub IsAmong : {X : Type 0} → (X → List ℕ) → Answers → Result X Error → Type 0
IsAmong view answers result =
    MatchResult result (λ x. answers (Ok (view x))) (λ e. (e.kind ≡ Memory) ⊎ answers (Err e.kind))

-- which answers the bytes of the type with a name may have
abbrev pub Table : Type 1
Table = List ℕ → List ℕ → Answers

-- the first of two where it is asked for, else the second
abbrev pub either_of : Bool → Answers → Answers → Answers
either_of true a b = a
either_of false a b = b

-- one row in front of a table: under this name the bytes have these answers
abbrev pub named : List ℕ → (List ℕ → Answers) → Table → Table
named name answers rest word bytes = either_of (bytes_eq word name) (answers bytes) (rest word bytes)

-- rows in front of a table
abbrev pub ◌otherwise◌ : (Table → Table) → Table → Table
◌otherwise◌ rows rest = rows rest

-- the table in which no name stands
abbrev pub nothing : Table
nothing word bytes answer = answer ≡ Err Failed

-- a table for each profile
abbrev pub by_profile : Table → Table → List ℕ → ProfileName → List ℕ → Answers
by_profile rfc5280 raw word Rfc5280 = rfc5280 word
by_profile rfc5280 raw word Raw = raw word
