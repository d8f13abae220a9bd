use Rattle.std.proofs.Common.{take}
use Rattle.std.specs.List.{AllZip}
use Rattle.x509_c_calls.proofs.path.find.trusted_by_all.Given as goal
use Rattle.x509_c_calls.specs.PathFinding.{GivesTrusted}
use Rattle.x509_verify.specs.Found.{octets}

abbrev pub invariant-loop-bytes : goal.invariant-loop-bytes
invariant-loop-bytes l = AllZip GivesTrusted (octets (take l.bytes-index l.anchors)) l.trusted.items
