use Rattle.std.proofs.Common.{◌≡◌, ◌++◌, ℕ, List, length}
use Rattle.std.specs.Fmt.{HasWritten, IsPlainFormatter}
use Rattle.hex.specs.Hex.{encode_lower}
use Rattle.x509_name.proofs.text.hex_text.write_octets.Given as goal

abbrev pub invariant-loop-rest : goal.invariant-loop-rest
invariant-loop-rest g l =
    (length l.digits ≡ 128)
    × (IsPlainFormatter l.fn.f → (written : List ℕ) × HasWritten g.W.Write.write_str_gives l.fn.f written l.f × (written ++ encode_lower l.rest ≡ encode_lower l.octets))

abbrev pub decreases-loop-rest : goal.decreases-loop-rest
decreases-loop-rest g l = length l.rest
