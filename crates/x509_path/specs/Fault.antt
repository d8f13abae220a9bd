-- How faults are printed.
use Rattle.std.specs.Prelude.{ℕ, List, ◌++◌, codes}
use Rattle.std.specs.Fmt.{decimal}
use Rattle.x509_path.specs.declared.fault.PathFault.{PathFault}
use Rattle.x509_path.specs.declared.fault.PathFault.TheVariants.{Memory, Empty, At}
use Rattle.x509_path.specs.declared.fault.PathReason.{PathReason}
use Rattle.x509_path.specs.declared.fault.PathReason.TheVariants.{Decode, Algorithm, Issuer, Moment, Signature, Repeated, Critical, NotCa, KeyUsage, PathLen}

-- the variant's name
abbrev pub reason_text : PathReason → List ℕ
reason_text Decode = codes "Decode"
reason_text Algorithm = codes "Algorithm"
reason_text Issuer = codes "Issuer"
reason_text Moment = codes "Moment"
reason_text Signature = codes "Signature"
reason_text Repeated = codes "Repeated"
reason_text Critical = codes "Critical"
reason_text NotCa = codes "NotCa"
reason_text KeyUsage = codes "KeyUsage"
reason_text PathLen = codes "PathLen"

-- the variant's name, or the place, a space and the reason
abbrev pub fault_text : PathFault → List ℕ
fault_text Memory = codes "Memory"
fault_text Empty = codes "Empty"
fault_text (At place reason) = decimal place ++ (codes " " ++ reason_text reason)
