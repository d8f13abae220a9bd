use Rattle.std.proofs.Common.{◌≡◌, ◌++◌, ℕ, List, length}
use Rattle.x509_der.specs.Element.{element}
use Rattle.x509_der.specs.List.{joined}
use Rattle.x509_path_steps.proofs.Sequences.{Left}
use Rattle.x509_path_steps.proofs.oids.first_oids.Given as goal
use Rattle.x509_path_steps.specs.Oids.{item}
use Rattle.x509_policy.specs.Views.{octets_of}

abbrev pub invariant-loop-piece : goal.invariant-loop-piece
invariant-loop-piece l = (items : List (List ℕ × List ℕ)) → l.bytes ≡ joined item items → Left (λ (i : List ℕ × List ℕ). element 6 i.0 ++ i.1) (λ (i : List ℕ × List ℕ). i.0) (octets_of l.found.items) l.rest items

abbrev pub decreases-loop-piece : goal.decreases-loop-piece
decreases-loop-piece l = length l.rest
