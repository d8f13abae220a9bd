use Rattle.std.proofs.Common.{◌≡◌, ◌++◌, ℕ, List, length, map}
use Rattle.x509_der.specs.Element.{element}
use Rattle.x509_der.specs.List.{joined}
use Rattle.x509_path_steps.proofs.Sequences.{Left}
use Rattle.x509_path_steps.proofs.oids.oid_pairs.Given as goal
use Rattle.x509_path_steps.specs.Oids.{pair}
use Rattle.x509_policy.specs.Values.{Mapping}
use Rattle.x509_policy.specs.Views.{mapping_of}

abbrev pub of_pair : List ℕ × List ℕ → Mapping
of_pair p = record { issuer_domain_policy = p.0; subject_domain_policy = p.1 }

abbrev pub invariant-loop-piece : goal.invariant-loop-piece
invariant-loop-piece l = (pairs : List (List ℕ × List ℕ)) → l.bytes ≡ joined pair pairs → Left (λ (p : List ℕ × List ℕ). element 6 p.0 ++ element 6 p.1) of_pair (map mapping_of l.found.items) l.rest pairs

abbrev pub decreases-loop-piece : goal.decreases-loop-piece
decreases-loop-piece l = length l.rest
