-- Whether members are left.
use Rattle.std.proofs.Common.{◌≡◌, ◌≤◌, ◌+◌, ℕ, List, [], ◌∷◌, ◌++◌, length, Option, Some, None, true, arith, length-append}
use Rattle.std.specs.Prelude.{is_some}
use Rattle.x509_der.specs.Element.{element}
use Rattle.x509_log.specs.Logged.{changed_octets}
use Rattle.x509_log.specs.declared.members.KeyIdentifier.{KeyIdentifier}

-- an element has octets
pub there : (changed : Option KeyIdentifier) → is_some changed ≡ true → 1 ≤ length (changed_octets changed)
unfolding element
there None e = absurd cc
there (Some k) e = omega arith

pub total : (a b c d e : List ℕ) → length (a ++ (b ++ (c ++ (d ++ e)))) ≡ length a + (length b + (length c + (length d + length e)))
total a b c d e = simp length-append (omega arith)
