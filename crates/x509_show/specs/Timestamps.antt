-- What the program writes of the SCTs within a certificate: the octets that the signature of each is over (RFC 6962 3.2, 3.3).
use Rattle.std.specs.Prelude.{◌≡◌, ◌⊎◌, ℕ, Bool, true, false, List, [], ◌∷◌, ◌++◌, take, bytes_eq, codes, Option, Some, None, Result, Ok, Err, if◌then◌else◌}
use Rattle.std.proofs.Common.{inr}
use Rattle.hex.specs.Hex.{encode_lower}
use Rattle.sha2.specs.Sha256.{sha256}
use Rattle.x509_base.specs.SubjectPublicKeyInfo.{subject_public_key_info}
use Rattle.x509_base.specs.declared.profile.Raw.{Raw}
use Rattle.x509_cert.specs.Certificate.{certificate}
use Rattle.x509_cert.specs.TbsCertificate.{tbs_certificate}
use Rattle.x509_cert.specs.declared.certificate.certificate.CertificateInner.{CertificateInner}
use Rattle.x509_der.specs.Form.{Form as DerForm, Spells as IsDer, spelling}
use Rattle.x509_der.specs.declared.error.ErrorKind.{ErrorKind}
use Rattle.x509_der.specs.declared.error.ErrorKind.TheVariants as kinds
use Rattle.x509_log.specs.Embedded.{AreTimestamps, LacksTimestamps}
use Rattle.x509_log.specs.Logged.{HasOne, Refuses, without_timestamps}
use Rattle.x509_log.specs.declared.error.LogError.{LogError}
use Rattle.x509_log.specs.declared.error.LogError.TheVariants as refusals
use Rattle.x509_object_run.specs.Faults.{complaint, fault_text, looks_of}
use Rattle.x509_object_run.specs.Labels.{is_standard, label_of}
use Rattle.x509_object_run.specs.Object.{Steps}
use Rattle.x509_object_run.specs.Program.{IsNamedRead, IsRun, IsTold, Streams, World, call_from}
use Rattle.x509_object_run.specs.declared.fault.Fault.{Fault as InputFault}
use Rattle.x509_object_run.specs.declared.fault.Fault.TheVariants.{NoObject, Unwritten, Memory}
use Rattle.x509_object_run.specs.declared.fault.OpenError.{OpenError}
use Rattle.x509_sct.specs.Form.{Spells}
use Rattle.x509_sct.specs.Identifier.{embedded_timestamps}
use Rattle.x509_sct.specs.Numbers.{vector24}
use Rattle.x509_sct.specs.SignedInput.{Entry, certificate_of, entry_of, signed_input}
use Rattle.x509_sct.specs.Timestamp.{timestamp}
use Rattle.x509_sct.specs.declared.entry.SignatureType.TheVariants.{CertificateTimestamp}
use Rattle.x509_sct.specs.declared.entry.SignedEntry.{SignedEntry}
use Rattle.x509_sct.specs.declared.error.Error.{Error as SctError}
use Rattle.x509_sct.specs.declared.error.Error.TheVariants as errors
use Rattle.x509_sct.specs.declared.serialized.SerializedSct.{SerializedSct}
use Rattle.x509_sct.specs.declared.timestamp.SignedCertificateTimestamp.{SignedCertificateTimestamp}
use Rattle.x509_sct.specs.declared.tls.error.TlsError.TheVariants as tls_errors
use Rattle.x509_show.specs.Show.{asked, misuse, no_object, program, subject}
use Rattle.x509_show.specs.declared.reason.Reason.{Reason}
use Rattle.x509_show.specs.declared.reason.Reason.TheVariants.{Fault, Absent, Repeated, Undecodable, TooLong}
use Rattle.x509_text.specs.Objects.{any_serial}
use Rattle.x509_text.specs.declared.objects.Kind.TheVariants.{Certificate}
use Rattle.x509_tool_run.specs.Answer.{as_line}
use Rattle.x509_tool_run.specs.Program.{IsCutOff, IsWritten}

-- ---- words

-- the issuer, and the certificate, which is read from standard input where it isn't named
abbrev pub pair_of : List (List ℕ) → Option (List ℕ × List ℕ)
pair_of [] = None
pair_of (issuer ∷ []) = Some (issuer, codes "-")
pair_of (issuer ∷ name ∷ []) = Some (issuer, name)
pair_of (issuer ∷ name ∷ other ∷ names) = None

-- `--sct-input` and no other option
abbrev pub is_beside : List (List ℕ) → Bool
is_beside [] = false
is_beside (option ∷ []) = bytes_eq option (codes "--sct-input")
is_beside (first ∷ second ∷ options) = false

abbrev pub beside_of : List (List ℕ) → List (List ℕ) → Option (List ℕ × List ℕ)
beside_of options names = if is_beside options then pair_of names else None

-- ---- why nothing is written, or not all

abbrev pub no_certificate : List ℕ
no_certificate = no_object (Some Certificate)

abbrev pub reason_text : Reason → List ℕ
reason_text (Fault fault) = fault_text no_certificate fault
reason_text Absent = codes "it has no list of SCTs"
reason_text Repeated = codes "it has two lists of SCTs or more"
reason_text Undecodable = codes "its list of SCTs can't be decoded"
reason_text TooLong = codes "its TBSCertificate has more than 16777215 bytes"

abbrev pub reason_of_kind : ErrorKind → Reason
reason_of_kind kinds.Memory = Fault Memory
reason_of_kind kinds.Overlength = Undecodable
reason_of_kind kinds.Malformed = Undecodable
reason_of_kind kinds.Failed = Undecodable
reason_of_kind kinds.SetDuplicate = Undecodable
reason_of_kind kinds.Value = Undecodable

abbrev pub reason_of : LogError → Reason
reason_of refusals.Absent = Absent
reason_of refusals.Repeated = Repeated
reason_of (refusals.Der e) = reason_of_kind e.kind
reason_of (refusals.Tls tls_errors.Memory) = Fault Memory
reason_of (refusals.Tls tls_errors.EndOfStream) = Undecodable
reason_of (refusals.Tls (tls_errors.UnknownValue number)) = Undecodable
reason_of (refusals.Tls tls_errors.TrailingData) = Undecodable
reason_of (refusals.Tls tls_errors.InvalidVectorLength) = Undecodable

-- ---- lines

-- an SCT in hex: the ID of its log, the octets that its signature is over, and the signature
abbrev pub signed_line : SignedCertificateTimestamp → List ℕ → List ℕ
signed_line it octets =
    encode_lower it.log_id.key_id ++ (codes " " ++ (encode_lower octets ++ (codes " " ++ as_line (encode_lower it.signature.signature))))

-- one that is of no version or algorithm that is known, or isn't whole
abbrev pub undecodable_line : List ℕ
undecodable_line = as_line (codes "undecodable")

-- the SCT says this, and its signature of the entry is over these octets
abbrev pub IsSignedLine : Entry → SerializedSct → List ℕ → Type 0
IsSignedLine entry sct line =
    (it : SignedCertificateTimestamp) × (octets : List ℕ) × Spells timestamp it sct.octets
    × Spells signed_input (it.version, (CertificateTimestamp, (it.timestamp, (entry, it.extensions)))) octets × (line ≡ signed_line it octets)

abbrev pub IsLineOf : Entry → SerializedSct → List ℕ → Type 0
IsLineOf entry sct line =
    IsSignedLine entry sct line ⊎ (((it : SignedCertificateTimestamp) → Spells timestamp it sct.octets → ⊥) × (line ≡ undecodable_line))

-- a line for each SCT of the entry, in their order
abbrev pub AreLines : Entry → List SerializedSct → List ℕ → Type 0
AreLines entry [] text = text ≡ []
AreLines entry (sct ∷ scts) text = (line : List ℕ) × (rest : List ℕ) × IsLineOf entry sct line × AreLines entry scts rest × (text ≡ line ++ rest)

-- ---- writing

abbrev pub is_memory : SctError → Bool
is_memory (errors.Der e) = false
is_memory (errors.Tls tls_errors.Memory) = true
is_memory (errors.Tls tls_errors.EndOfStream) = false
is_memory (errors.Tls (tls_errors.UnknownValue number)) = false
is_memory (errors.Tls tls_errors.TrailingData) = false
is_memory (errors.Tls tls_errors.InvalidVectorLength) = false

-- a text is written, or cut off; or memory is refused, and nothing is written
abbrev pub IsTextWritten : {W : Type 0} → List ℕ → Steps W → W → W → Result Unit Reason → Type 0
IsTextWritten text takes old new (Ok u) = IsWritten takes old text new
IsTextWritten text takes old new (Err e) = ((e ≡ Fault Unwritten) × IsCutOff takes old text new) ⊎ ((e ≡ Fault Memory) × (new ≡ old))

-- why no line is written: memory is refused, or the entry is longer than one may be
abbrev pub LacksLine : SignedEntry → Reason → Type 0
LacksLine entry e = (e ≡ Fault Memory) ⊎ ((e ≡ TooLong) × (vector24.good (certificate_of entry) → ⊥))

-- the line of an SCT is written, or cut off; or nothing is written
abbrev pub IsLineWritten : {W : Type 0} → SignedEntry → SerializedSct → Steps W → W → W → Result Unit Reason → Type 0
IsLineWritten entry sct takes old new (Ok u) = (line : List ℕ) × IsLineOf (entry_of entry) sct line × IsWritten takes old line new
IsLineWritten entry sct takes old new (Err e) =
    ((line : List ℕ) × IsLineOf (entry_of entry) sct line × (e ≡ Fault Unwritten) × IsCutOff takes old line new) ⊎ (LacksLine entry e × (new ≡ old))

-- The lines of all SCTs are written; or those of the first ones, of which the last is cut off, or behind which none can be had.
abbrev pub AreWritten : {W : Type 0} → SignedEntry → List SerializedSct → Steps W → W → W → Result Unit Reason → Type 0
AreWritten entry scts takes old new (Ok u) = (text : List ℕ) × AreLines (entry_of entry) scts text × IsWritten takes old text new
AreWritten entry scts takes old new (Err e) =
    (count : ℕ) × (text : List ℕ) × AreLines (entry_of entry) (take count scts) text
    × (((e ≡ Fault Unwritten) × IsCutOff takes old text new) ⊎ (LacksLine entry e × IsWritten takes old text new))

-- ---- a certificate and its issuer

-- certificates under no rules beyond the grammar
abbrev pub raw_certificate : DerForm (CertificateInner Raw)
raw_certificate = certificate {P = Raw} any_serial

-- The bytes are certificates, and these are the SCTs in the one list of the first: of a precertificate with the hash of the other's key, and the
-- TBSCertificate without the list.
pub record AreEmbedded (bytes issuer : List ℕ) (entry : Entry) (scts : List SerializedSct) : Type 0 where
  pub whole : CertificateInner Raw
  pub above : CertificateInner Raw
  pub read : IsDer raw_certificate whole bytes
  pub read_above : IsDer raw_certificate above issuer
  pub part : List ℕ
  pub one : HasOne embedded_timestamps whole.tbs_certificate
  pub cut : IsDer (tbs_certificate {P = Raw} any_serial) (without_timestamps whole.tbs_certificate) part
  pub entry_is : entry ≡ inr (sha256 (spelling subject_public_key_info above.tbs_certificate.subject_public_key_info), part)
  pub are : AreTimestamps whole.tbs_certificate scts

abbrev pub IsNoCertificate : List ℕ → Type 0
IsNoCertificate bytes = (whole : CertificateInner Raw) → IsDer raw_certificate whole bytes → ⊥

-- why bytes have no SCTs: they are no certificate, or one without a list, or with two, or with a list that can't be decoded
abbrev pub HaveNone : List ℕ → Reason → Type 0
HaveNone bytes e =
    ((e ≡ Fault (NoObject (looks_of bytes))) × IsNoCertificate bytes)
    ⊎ ((whole : CertificateInner Raw) × (refusal : LogError) × IsDer raw_certificate whole bytes
    × (Refuses embedded_timestamps whole.tbs_certificate refusal ⊎ LacksTimestamps whole.tbs_certificate refusal) × (e ≡ reason_of refusal))

-- a line is written for each SCT of the bytes; or nothing is, where they have none
abbrev pub IsCertificateWritten : {W : Type 0} → List ℕ → List ℕ → Steps W → W → W → Result Unit Reason → Type 0
IsCertificateWritten bytes issuer takes old new result =
    ((entry : SignedEntry) × (scts : List SerializedSct) × AreEmbedded bytes issuer (entry_of entry) scts × AreWritten entry scts takes old new result)
    ⊎ ((e : Reason) × (result ≡ Err e) × HaveNone bytes e × (new ≡ old))

-- of an input that is read, or isn't
abbrev pub IsReadWritten : {W : Type 0} → Result (List ℕ) InputFault → List ℕ → Steps W → W → W → Result Unit Reason → Type 0
IsReadWritten (Ok bytes) issuer takes old new result = IsCertificateWritten bytes issuer takes old new result
IsReadWritten (Err fault) issuer takes old new result = (result ≡ Err (Fault fault)) × (new ≡ old)

abbrev pub IsNamedWritten : {R F W : Type 0} → Steps R → (List ℕ → Result F OpenError → Type 0) → Steps F → Steps W → List ℕ → List ℕ → R → R → W → W → Result Unit Reason → Type 0
IsNamedWritten gives opens file_gives takes name issuer from to old new result =
    (read : Result (List ℕ) InputFault) × IsNamedRead gives opens file_gives (is_standard name) name from to read
    × IsReadWritten read issuer takes old new result

-- ---- a run

-- it is told why the input of a name is refused, or that there is no memory for that, with status 2
abbrev pub IsRefused : {E : Type 0} → List ℕ → Reason → Steps E → E → E → ℕ → Type 0
IsRefused name e takes_errors old new status =
    (IsTold takes_errors old (complaint program.name (label_of name) (reason_text e)) new
    ⊎ IsTold takes_errors old (complaint program.name (label_of name) (reason_text (Fault Memory))) new) × (status ≡ 2)

abbrev pub IsEnded : {E : Type 0} → List ℕ → Result Unit Reason → Steps E → E → E → ℕ → Type 0
IsEnded name (Ok u) takes_errors old new status = (new ≡ old) × (status ≡ 0)
IsEnded name (Err e) takes_errors old new status = IsRefused name e takes_errors old new status

-- behind an issuer that is read: it is a certificate, and the input of the name is written; or it is none, and that is told
abbrev pub IsBelow : {R F W E : Type 0} → World R F W E → List ℕ → List ℕ → List ℕ → Streams R W E → Streams R W E → ℕ → Type 0
IsBelow world issuer name above old new status =
    ((result : Result Unit Reason) × IsNamedWritten world.gives world.opens world.file_gives world.takes name above old.input new.input old.output new.output result
    × IsEnded name result world.takes_errors old.errors new.errors status)
    ⊎ (IsNoCertificate above × (new.input ≡ old.input) × (new.output ≡ old.output)
    × IsRefused issuer (Fault (NoObject (looks_of above))) world.takes_errors old.errors new.errors status)

abbrev pub IsBelowRead : {R F W E : Type 0} → World R F W E → List ℕ → List ℕ → Result (List ℕ) InputFault → Streams R W E → Streams R W E → ℕ → Type 0
IsBelowRead world issuer name (Ok above) old new status = IsBelow world issuer name above old new status
IsBelowRead world issuer name (Err fault) old new status =
    (new.input ≡ old.input) × (new.output ≡ old.output) × IsRefused issuer (Fault fault) world.takes_errors old.errors new.errors status

abbrev pub from_input : {R W E : Type 0} → R → Streams R W E → Streams R W E
from_input input old = record old { input = input }

-- the issuer is read, and then the certificate
abbrev pub IsShownBeside : {R F W E : Type 0} → World R F W E → List ℕ → List ℕ → Streams R W E → Streams R W E → ℕ → Type 0
IsShownBeside {R} world issuer name old new status =
    (middle : R) × (read : Result (List ℕ) InputFault)
    × IsNamedRead world.gives world.opens world.file_gives (is_standard issuer) issuer old.input middle read
    × IsBelowRead world issuer name read (from_input middle old) new status

-- what is asked for is done: what the SCTs of a certificate are signatures of, or what the run over objects does
abbrev pub IsAsked : {R F W E : Type 0} → World R F W E → List (List ℕ) → List (List ℕ) → Option (List ℕ × List ℕ) → Streams R W E → Streams R W E → ℕ → Type 0
IsAsked world options names (Some pair) old new status = IsShownBeside world pair.0 pair.1 old new status
IsAsked world options names None old new status = IsRun program subject world (call_from asked misuse options names) old new status

-- by options and names
abbrev pub IsObeyed : {R F W E : Type 0} → World R F W E → List (List ℕ) → List (List ℕ) → Streams R W E → Streams R W E → ℕ → Type 0
IsObeyed world options names old new status = IsAsked world options names (beside_of options names) old new status
