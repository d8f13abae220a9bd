-- What is said of one certificate.
use Rattle.std.proofs.Common.{arith}
use Rattle.x509_path.specs.Path.{reasons}
use Rattle.x509_path.specs.declared.fault.PathReason.{PathReason}
use Rattle.x509_path.specs.declared.fault.PathReason.TheVariants.{Decode, Algorithm, Issuer, Moment, Signature, Repeated, Critical, NotCa, KeyUsage, PathLen}
use Rattle.x509_path.proofs.Firsts.{Free}

-- the list has all reasons but Decode
pub none : (P : PathReason → Type 0) → (P Decode → ⊥) → Free P reasons → (r : PathReason) → P r → ⊥
none P readable free Decode = readable
none P readable free Algorithm = free 0 Decode (omega arith)
none P readable free Issuer = free 1 Decode (omega arith)
none P readable free Moment = free 2 Decode (omega arith)
none P readable free Signature = free 3 Decode (omega arith)
none P readable free Repeated = free 4 Decode (omega arith)
none P readable free Critical = free 5 Decode (omega arith)
none P readable free NotCa = free 6 Decode (omega arith)
none P readable free KeyUsage = free 7 Decode (omega arith)
none P readable free PathLen = free 8 Decode (omega arith)
