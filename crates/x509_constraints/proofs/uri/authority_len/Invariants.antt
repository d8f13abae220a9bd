use Rattle.std.proofs.Common.{◌≡◌, ℕ, ◌<◌, false, get_or}
use Rattle.x509_constraints.specs.Uri.{ends_authority}
use Rattle.x509_constraints.proofs.uri.authority_len.Given as goal

abbrev pub invariant-loop-i : goal.invariant-loop-i
invariant-loop-i l = (k : ℕ) → k < l.i → ends_authority (get_or l.rest k 0) ≡ false
