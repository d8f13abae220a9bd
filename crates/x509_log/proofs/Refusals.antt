-- Why a certificate gives no timestamps, by the errors of the calls below.
use Rattle.std.proofs.Common.{◌≡◌, ℕ, ◌<◌, ◌≤◌, ◌⊎◌, inl, inr, List, [], ◌∷◌, length, Result, Ok, Err, sym, ap, ◌∙◌}
use Rattle.std.specs.Prelude.{IfErr, IsErrAnd}
use Rattle.std.proofs.lemmas.Bool.{cases_lt}
use Rattle.x509_cert.specs.declared.certificate.tbs_certificate.TbsCertificateInner.{TbsCertificateInner}
use Rattle.x509_der.specs.Element.{limit}
use Rattle.x509_der.specs.Form.{Spells as IsDer}
use Rattle.x509_der.specs.declared.error.Error.{Error as DerError}
use Rattle.x509_der.specs.declared.error.ErrorKind.TheVariants as kinds
use Rattle.x509_ext.specs.LookUp.{members, with_oid}
use Rattle.x509_ext.specs.declared.extension.Extension.{Extension}
use Rattle.x509_log.specs.Embedded.{HoldsNoList, LacksTimestamps}
use Rattle.x509_log.specs.Errors.{IsMemory, of_sct}
use Rattle.x509_log.specs.declared.error.LogError.{LogError}
use Rattle.x509_log.specs.declared.error.LogError.TheVariants.{Der, Tls}
use Rattle.x509_sct.specs.Identifier.{embedded_timestamps}
use Rattle.x509_sct.specs.Lists.{ListFault}
use Rattle.x509_sct.specs.Numbers.{uint16}
use Rattle.x509_sct.specs.Payload.{signed_certificate_timestamp_list}
use Rattle.x509_sct.specs.TimestampList.{serialized}
use Rattle.x509_sct.specs.declared.error.Error.{Error as SctError}
use Rattle.x509_sct.specs.declared.error.Error.TheVariants as errors
use Rattle.x509_sct.specs.declared.list.SignedCertificateTimestampList.{SignedCertificateTimestampList}
use Rattle.x509_sct.specs.declared.tls.error.TlsError.{TlsError}
use Rattle.x509_sct.specs.declared.tls.error.TlsError.TheVariants as tls_errors

pub err_by : {X E : Type 0} (result : Result X E) (P Q : E → Type 0) → IsErrAnd result P → ((e : E) → P e → Q e) → IfErr result Q
err_by (Ok x) P Q is then = absurd is
err_by (Err e) P Q is then = then e is

-- an error of a call on timestamps, as one of a call on certificates that are logged
pub of_answer :
    (IsFault : TlsError → Type 0) (d : SctError) (e : LogError) → e ≡ of_sct d
    → ((d ≡ errors.Tls tls_errors.Memory) × Unit {0}) ⊎ ((fault : TlsError) × IsFault fault × (d ≡ errors.Tls fault))
    → IsMemory e ⊎ ((fault : TlsError) × IsFault fault × (e ≡ Tls fault))
of_answer IsFault d e is = elim [
  | inl memory ↦ inl (inr (is ∙ ap of_sct memory.0))
  | inr fault ↦ inr (fault.0, fault.1, is ∙ ap of_sct fault.2)
]

-- the octets hold no list, by the clauses of decoding
no_list :
    (octets : List ℕ) (d : DerError) (e : LogError) → e ≡ Der d → (limit < length octets) ⊎ (length octets ≤ limit) → (limit < length octets → d.kind ≡ kinds.Overlength)
    → (length octets ≤ limit → ((d.kind ≡ kinds.Memory) × Unit {0}) ⊎ ((d.kind ≡ kinds.Malformed) ⊎ ⊥))
    → (length octets ≤ limit → (list : SignedCertificateTimestampList) → IsDer signed_certificate_timestamp_list list octets → (d.kind ≡ kinds.Memory) × Unit {0})
    → IsMemory e ⊎ HoldsNoList octets e
no_list octets d e is (inl long) overlength refused only = inr (inl (d, is, inl (overlength long, long)))
no_list octets d e is (inr within) overlength refused only = elim (refused within) [
  | inl memory ↦ inl (inl (d, is, memory.0))
  | inr (inl malformed) ↦ inr (inl (d, is, inr (malformed, λ list spells. let m = (only within list spells).0 in let k = sym malformed ∙ m in absurd cc)))
  | inr (inr none) ↦ absurd none
]

pub lacks_list :
    {P : Type 0} (part : TbsCertificateInner P) (extension : Extension) (d : DerError) (e : LogError)
    → with_oid embedded_timestamps (members part.extensions) ≡ extension ∷ [] → e ≡ Der d
    → (limit < length extension.extn_value → d.kind ≡ kinds.Overlength)
    → (length extension.extn_value ≤ limit → ((d.kind ≡ kinds.Memory) × Unit {0}) ⊎ ((d.kind ≡ kinds.Malformed) ⊎ ⊥))
    → (length extension.extn_value ≤ limit → (list : SignedCertificateTimestampList) → IsDer signed_certificate_timestamp_list list extension.extn_value
    → (d.kind ≡ kinds.Memory) × Unit {0})
    → LacksTimestamps part e
lacks_list part extension d e one is overlength refused only =
    elim (no_list extension.extn_value d e is (cases_lt limit (length extension.extn_value)) overlength refused only) [
      | inl memory ↦ inl memory
      | inr none ↦ inr (extension, one, none)
    ]

pub lacks_items :
    {P : Type 0} (part : TbsCertificateInner P) (extension : Extension) (list : SignedCertificateTimestampList) (e : LogError)
    → with_oid embedded_timestamps (members part.extensions) ≡ extension ∷ [] → IsDer signed_certificate_timestamp_list list extension.extn_value
    → IsMemory e ⊎ ((fault : TlsError) × ListFault uint16 serialized list.0 fault × (e ≡ Tls fault)) → LacksTimestamps part e
lacks_items part extension list e one holds = elim [
  | inl memory ↦ inl memory
  | inr fault ↦ inr (extension, one, inr (list, holds, fault.0, fault.1, fault.2))
]
