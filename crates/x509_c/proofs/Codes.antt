-- The numbers of statuses.
use Rattle.std.proofs.Common.{◌≡◌, refl, to_z, of_z, w32}
use Rattle.x509_c_calls.specs.Status.{code_of}
use Rattle.x509_c_calls.specs.declared.status.status.Status.{Status}
use Rattle.x509_c_calls.specs.declared.status.status.Status.TheVariants.{Refused}
use Rattle.x509_der.specs.declared.error.ErrorKind.TheVariants.{Memory}

-- the number of a status is that of 32 bits
pub code_again : (status : Status) → to_z w32 (of_z w32 (code_of status)) ≡ code_of status
code_again (Refused Memory) = refl
code_again _ = refl
