use Rattle.std.proofs.Common.{◌≡◌, drop}
use Rattle.x509_prim.specs.Integer.{number}
use Rattle.x509_prim.proofs.Naturals.{number_from}
use Rattle.x509_prim.proofs.content.digits_u128.Given as goal

abbrev pub invariant-loop-octet : goal.invariant-loop-octet
invariant-loop-octet l = number_from l.high (drop l.octet-index l.octets) ≡ number l.octets
