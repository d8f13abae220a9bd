-- What is said of paths of certificates whose signatures are echoes, or are not looked at.
use Rattle.std.specs.Prelude.{◌≡◌, ◌≢◌, ◌⊎◌, ℕ, Bool, true, List, Option, Some, None, Result, Ok, Err, bytes_eq, ◌&&◌, ◌==◌}
use Rattle.x509_base.specs.CivilTime.{CivilTime, IsDateTime}
use Rattle.x509_base.specs.TimeText.{date_time_text}
use Rattle.x509_der.specs.declared.error.ErrorKind.{ErrorKind}
use Rattle.x509_der.specs.declared.error.ErrorKind.TheVariants.{Failed}
use Rattle.x509_der.specs.Form.{Spells}
use Rattle.x509_cert.specs.Certificate.{rfc5280_certificate}
use Rattle.x509_path.specs.Certificates.{Accepting, Certificate}
use Rattle.x509_path.specs.Fault.{fault_text}
use Rattle.x509_path.specs.Path.{Answers, subject_of}
use Rattle.x509_path.specs.declared.fault.PathFault.{PathFault}
use Rattle.x509_path.specs.declared.fault.PathFault.TheVariants.{Memory}
use Rattle.x509_prim.specs.BitString.{BitParts}
use Rattle.x509_codec.specs.declared.signatures.Signatures.{Signatures}
use Rattle.x509_codec.specs.declared.signatures.Signatures.TheVariants.{Echoes, Any}
use Rattle.x509_types.specs.Reencoding.{IsRefused}

-- a signature that is the message itself
abbrev pub is_echo : BitParts → List ℕ → Bool
is_echo signature message = (signature.unused == 0) && bytes_eq signature.octets message

-- echoes, or any signature: no algorithm and no key is asked
abbrev pub accepting : Signatures → Accepting
accepting Echoes algorithm key message signature = is_echo signature message
accepting Any algorithm key message signature = true

-- what is said of what a check of a path may answer, memory aside
abbrev pub Tells : (Result Unit PathFault → Type 0) → Result (Option (List ℕ)) ErrorKind → Type 0
Tells answers (Ok None) = answers (Ok tt)
Tells answers (Ok (Some text)) = (fault : PathFault) × answers (Err fault) × (fault ≢ Memory) × (text ≡ fault_text fault)
Tells answers (Err e) = ⊥

-- What is said of the path at a moment, under the subject and the key of the anchor's certificate; or why that is refused.
abbrev pub ChecksUnder : (ErrorKind → Type 0) → Accepting → CivilTime → List ℕ → List (List ℕ) → Result (Option (List ℕ)) ErrorKind → Type 0
ChecksUnder refuses accepts moment anchor path given =
    ((c : Certificate) × Spells rfc5280_certificate c anchor × Tells (Answers accepts moment (subject_of c) path) given)
    ⊎ ((e : ErrorKind) × IsRefused rfc5280_certificate refuses anchor e × (given ≡ Err e))

-- What is said of the path at the moment of a text, where these signatures are accepted; a text of no date-time is refused. refuses are the errors of a
-- certificate's own in reading.
unfoldable pub ChecksAccepted : (ErrorKind → Type 0) → Signatures → List ℕ → List ℕ → List (List ℕ) → Result (Option (List ℕ)) ErrorKind → Type 0
ChecksAccepted refuses accepted text anchor path given =
    ((moment : CivilTime) × IsDateTime moment × (text ≡ date_time_text moment) × ChecksUnder refuses (accepting accepted) moment anchor path given)
    ⊎ (((moment : CivilTime) → IsDateTime moment → text ≢ date_time_text moment) × (given ≡ Err Failed))
