-- How faults of validation are printed.
use Rattle.std.specs.Prelude.{ℕ, List, ◌++◌, codes}
use Rattle.std.specs.Fmt.{decimal}
use Rattle.x509_path_steps.specs.declared.validation_fault.ValidationFault.{ValidationFault}
use Rattle.x509_path_steps.specs.declared.validation_fault.ValidationFault.TheVariants.{Memory, Empty, Initial, At}
use Rattle.x509_path_steps.specs.declared.validation_fault.ValidationReason.{ValidationReason}
use Rattle.x509_path_steps.specs.declared.validation_fault.ValidationReason.TheVariants.{Decode, Algorithm, Issuer, Moment, Signature, Repeated, Critical, Extension, NotCa, KeyUsage, PathLen, Names, Constraints, RepeatedPolicy, Policy, PolicyMapping, Version, Usage, Purpose}

-- the variant's name
abbrev pub reason_text : ValidationReason → List ℕ
reason_text Decode = codes "Decode"
reason_text Algorithm = codes "Algorithm"
reason_text Issuer = codes "Issuer"
reason_text Moment = codes "Moment"
reason_text Signature = codes "Signature"
reason_text Repeated = codes "Repeated"
reason_text Critical = codes "Critical"
reason_text Extension = codes "Extension"
reason_text NotCa = codes "NotCa"
reason_text KeyUsage = codes "KeyUsage"
reason_text PathLen = codes "PathLen"
reason_text Names = codes "Names"
reason_text Constraints = codes "Constraints"
reason_text RepeatedPolicy = codes "RepeatedPolicy"
reason_text Policy = codes "Policy"
reason_text PolicyMapping = codes "PolicyMapping"
reason_text Version = codes "Version"
reason_text Usage = codes "Usage"
reason_text Purpose = codes "Purpose"

-- the variant's name, or the place, a space and the reason
abbrev pub fault_text : ValidationFault → List ℕ
fault_text Memory = codes "Memory"
fault_text Empty = codes "Empty"
fault_text Initial = codes "Initial"
fault_text (At place reason) = decimal place ++ (codes " " ++ reason_text reason)
