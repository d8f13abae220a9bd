use Rattle.std.proofs.Common.{◌≡◌, ℕ, ◌<◌, not, false, get_or}
use Rattle.x509_constraints.specs.Uri.{is_scheme_octet}
use Rattle.x509_constraints.proofs.uri.scheme_len.Given as goal

abbrev pub invariant-loop-i : goal.invariant-loop-i
invariant-loop-i l = (k : ℕ) → k < l.i → not (is_scheme_octet (get_or l.uri k 0)) ≡ false
