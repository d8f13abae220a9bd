-- Entries in the order of their keys.
use Rattle.std.specs.Prelude.{List, IsSortedByKey}
use Rattle.std.specs.declared.cmp.Ordering.{Ordering}
use Rattle.x509_verify.specs.declared.keyed.Keyed.{Keyed}

abbrev pub IsInOrder : {K V : Type 0} → (K → K → Ordering) → List (Keyed K V) → Type 0
IsInOrder cmp entries = IsSortedByKey (λ entry. entry.key) cmp entries
