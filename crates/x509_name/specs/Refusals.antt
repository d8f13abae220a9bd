-- Which refusal comes first where parts are read from the left.
use Rattle.std.specs.Prelude.{◌⊎◌, List, [], ◌∷◌}
use Rattle.x509_der.specs.declared.error.ErrorKind.{ErrorKind}

-- the leftmost part that doesn't read is refused so
abbrev pub FirstRefused : {X Y : Type 0} → (X → Y → Type 0) → (X → ErrorKind → Type 0) → List X → ErrorKind → Type 0
FirstRefused reads refused [] kind = ⊥
FirstRefused {X} {Y} reads refused (x ∷ xs) kind = refused x kind ⊎ (((y : Y) × reads x y) × FirstRefused reads refused xs kind)
