use Rattle.std.proofs.Common.{◌≡◌, ◌==◌, length}
use Rattle.std.specs.List.{list_all}
use Rattle.x509_lint_web.proofs.constraints.are_all_zero.Given as goal

abbrev pub invariant-loop-octets : goal.invariant-loop-octets
invariant-loop-octets l = list_all (λ octet. octet == 0) l.octets ≡ list_all (λ octet. octet == 0) l.initial.octets

abbrev pub decreases-loop-octets : goal.decreases-loop-octets
decreases-loop-octets l = length l.octets
