use Rattle.std.proofs.Common.{◌≡◌, length, string_bytes}
use Rattle.x509_match.proofs.Values.{AreBehind}
use Rattle.x509_match.proofs.value.universal_text.Given as goal

abbrev pub invariant-loop-rest : goal.invariant-loop-rest
invariant-loop-rest l = AreBehind (string_bytes l.text) l.rest l.content

abbrev pub decreases-loop-rest : goal.decreases-loop-rest
decreases-loop-rest l = length l.rest
