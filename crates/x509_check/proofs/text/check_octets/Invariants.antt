use Rattle.std.proofs.Common.{◌≡◌, length}
use Rattle.x509_prim.specs.Bmp.{is_bmp}
use Rattle.x509_check.proofs.text.check_octets.Given as goal

abbrev pub invariant-loop-rest : goal.invariant-loop-rest
invariant-loop-rest l = is_bmp l.rest ≡ is_bmp l.octets

abbrev pub decreases-loop-rest : goal.decreases-loop-rest
decreases-loop-rest l = length l.rest
