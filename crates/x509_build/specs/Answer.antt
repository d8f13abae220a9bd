-- What a call answers that may be refused for reasons of its own.
use Rattle.std.specs.Prelude.{◌≡◌, ◌⊎◌, ◌↔◌, Result, Ok, Err}
use Rattle.x509_base.specs.declared.algorithm_identifier.AlgorithmIdentifier.{AlgorithmIdentifier}
use Rattle.x509_base.specs.declared.subject_public_key_info.SubjectPublicKeyInfo.{SubjectPublicKeyInfo}
use Rattle.x509_build.specs.declared.error.Error.{Error}
use Rattle.x509_build.specs.Refusals.{LacksMemory}
use Rattle.x509_prim.specs.BitString.{BitParts}

-- The value, unless there is an error by which it is refused.
pub record Answer (X : Type 0) : Type 1 where
  pub value : X
  pub refuses : Error → Type 0

abbrev pub IsRefused : {X : Type 0} → Answer X → Type 0
IsRefused answer = (e : Error) × answer.refuses e

-- a call answers, seen by view, the value exactly where nothing refuses it; else one of those errors; or out of memory
abbrev pub Gives : {X Y : Type 0} → (Y → X) → Answer X → Result Y Error → Type 0
Gives view answer (Ok given) = (view given ≡ answer.value) × (IsRefused answer → ⊥)
Gives view answer (Err e) = LacksMemory e ⊎ answer.refuses e

abbrev pub IsSame : {X : Type 0} → Answer X → Answer X → Type 0
IsSame a b = (a.value ≡ b.value) × ((e : Error) → a.refuses e ↔ b.refuses e)

-- a key whose two parts are lent
abbrev pub key_lent : AlgorithmIdentifier → BitParts → SubjectPublicKeyInfo
key_lent algorithm bits = record { algorithm = algorithm; subject_public_key = bits }
