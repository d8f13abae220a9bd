-- Steps that may find no room.
use Rattle.std.specs.Prelude.{Option, None, Some, OnSome, IfNone}
use Rattle.std.proofs.lemmas.Option.{IfSome_then}

pub OnSome-then : {P Q : Type 0} (r : Option (Unit {0})) → OnSome r P → (P → Q) → OnSome r Q
OnSome-then r h f = IfSome_then r h (λ x p. f p)

pub IfNone-then : {P Q : Type 0} (r : Option (Unit {0})) → IfNone r P → (P → Q) → IfNone r Q
IfNone-then None h f = f h
IfNone-then (Some x) h f = tt
