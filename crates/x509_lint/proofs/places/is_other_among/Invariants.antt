use Rattle.std.proofs.Common.{◌≡◌, length, bytes_eq, not}
use Rattle.std.specs.List.{list_any}
use Rattle.x509_lint.proofs.places.is_other_among.Given as goal

abbrev pub invariant-loop-descriptions : goal.invariant-loop-descriptions
invariant-loop-descriptions l =
    list_any (λ d. not (bytes_eq d.access_method l.method)) l.descriptions ≡ list_any (λ d. not (bytes_eq d.access_method l.method)) l.initial.descriptions

abbrev pub decreases-loop-descriptions : goal.decreases-loop-descriptions
decreases-loop-descriptions l = length l.descriptions
