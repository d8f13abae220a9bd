use Rattle.std.proofs.Common.{◌≡◌}
use Rattle.x509_prim.specs.Bmp.{bmp_octets}
use Rattle.x509_prim.proofs.bmp.octets_of.Given as goal

abbrev pub invariant-loop-c : goal.invariant-loop-c
invariant-loop-c l = record { octets : l.octets.items ≡ bmp_octets l.yielded }
