-- Errors of calls on certificates that are logged.
use Rattle.std.specs.Prelude.{◌≡◌, ◌⊎◌}
use Rattle.x509_der.specs.declared.error.Error.{Error as DerError}
use Rattle.x509_der.specs.declared.error.ErrorKind.TheVariants.{Memory}
use Rattle.x509_log.specs.declared.error.LogError.{LogError}
use Rattle.x509_log.specs.declared.error.LogError.TheVariants.{Der, Tls}
use Rattle.x509_sct.specs.declared.error.Error.{Error}
use Rattle.x509_sct.specs.declared.error.Error.TheVariants as errors
use Rattle.x509_sct.specs.declared.tls.error.TlsError.TheVariants as tls_errors

-- an error of timestamps
abbrev pub of_sct : Error → LogError
of_sct (errors.Der e) = Der e
of_sct (errors.Tls e) = Tls e

-- out of memory
abbrev pub IsMemory : LogError → Type 0
IsMemory e = ((refusal : DerError) × (e ≡ Der refusal) × (refusal.kind ≡ Memory)) ⊎ (e ≡ Tls tls_errors.Memory)
