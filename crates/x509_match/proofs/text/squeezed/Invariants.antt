use Rattle.std.proofs.Common.{◌≡◌, ◌++◌, length, string_bytes, encode_utf8_all}
use Rattle.x509_match.specs.Prepared.{squeezed_behind, squeezed}
use Rattle.x509_match.proofs.text.squeezed.Given as goal

abbrev pub invariant-loop-rest : goal.invariant-loop-rest
invariant-loop-rest l = string_bytes l.out ++ encode_utf8_all (squeezed_behind l.begun l.gap l.rest) ≡ encode_utf8_all (squeezed l.text)

abbrev pub decreases-loop-rest : goal.decreases-loop-rest
decreases-loop-rest l = length l.rest
