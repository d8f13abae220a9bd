-- What stands in front of the members of a finding, by how it is told.
use Rattle.std.proofs.Common.{◌≡◌, ◌⊎◌, ℕ, List, Some, None, inl, inr, refl}
use Rattle.x509_linter.specs.Linter.{front_for, json_front}
use Rattle.x509_linter.specs.declared.linter.Telling.{Telling}
use Rattle.x509_linter.specs.declared.linter.Telling.TheVariants.{Lines, Verbose, Json, VerboseJson}

pub of_json : (telling : Telling) (name : List ℕ) → (telling ≡ Json) ⊎ (telling ≡ VerboseJson) → front_for telling name ≡ Some (json_front name)
of_json telling name h = elim h [
  | inl is ↦ rw is refl
  | inr is ↦ rw is refl
]

pub of_lines : (telling : Telling) (name : List ℕ) → (telling ≡ Lines) ⊎ (telling ≡ Verbose) → front_for telling name ≡ None
of_lines telling name h = elim h [
  | inl is ↦ rw is refl
  | inr is ↦ rw is refl
]
