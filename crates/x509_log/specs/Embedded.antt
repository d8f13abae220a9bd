-- What the SCTs within a certificate are signatures of (RFC 6962 3.2, 3.3).
use Rattle.std.specs.Prelude.{◌≡◌, ◌<◌, ◌⊎◌, ℕ, List, [], ◌∷◌, length}
use Rattle.std.proofs.Common.{inr}
use Rattle.sha2.specs.Sha256.{sha256}
use Rattle.x509_base.specs.SubjectPublicKeyInfo.{subject_public_key_info}
use Rattle.x509_cert.specs.declared.certificate.tbs_certificate.TbsCertificateInner.{TbsCertificateInner}
use Rattle.x509_der.specs.Element.{limit}
use Rattle.x509_der.specs.Form.{spelling}
use Rattle.x509_der.specs.Form.{Form as DerForm, Spells as IsDer}
use Rattle.x509_der.specs.declared.error.Error.{Error as DerError}
use Rattle.x509_der.specs.declared.error.ErrorKind.TheVariants.{Malformed, Overlength}
use Rattle.x509_ext.specs.LookUp.{members, with_oid}
use Rattle.x509_ext.specs.declared.extension.Extension.{Extension}
use Rattle.x509_log.specs.Errors.{IsMemory}
use Rattle.x509_log.specs.Logged.{HasOne, without_timestamps}
use Rattle.x509_log.specs.declared.embedded.EmbeddedTimestamps.{EmbeddedTimestamps}
use Rattle.x509_log.specs.declared.embedded.SignedTimestamp.{SignedTimestamp}
use Rattle.x509_log.specs.declared.error.LogError.{LogError}
use Rattle.x509_log.specs.declared.error.LogError.TheVariants.{Der, Tls}
use Rattle.x509_sct.specs.Form.{IsWholeFault, Spells}
use Rattle.x509_sct.specs.Identifier.{embedded_timestamps}
use Rattle.x509_sct.specs.Lists.{ListFault}
use Rattle.x509_sct.specs.Numbers.{uint16, vector24}
use Rattle.x509_sct.specs.Payload.{signed_certificate_timestamp_list}
use Rattle.x509_sct.specs.SignedInput.{Entry, signed_input}
use Rattle.x509_sct.specs.Timestamp.{timestamp}
use Rattle.x509_sct.specs.TimestampList.{IsTimestampList, serialized}
use Rattle.x509_sct.specs.declared.entry.SignatureType.TheVariants.{CertificateTimestamp}
use Rattle.x509_sct.specs.declared.list.SignedCertificateTimestampList.{SignedCertificateTimestampList}
use Rattle.x509_sct.specs.declared.serialized.SerializedSct.{SerializedSct}
use Rattle.x509_sct.specs.declared.tls.error.TlsError.{TlsError}
use Rattle.x509_sct.specs.declared.tls.error.TlsError.TheVariants.{InvalidVectorLength}

-- these are the timestamps in the certificate's one list
pub record AreTimestamps {P : Type 0} (part : TbsCertificateInner P) (timestamps : List SerializedSct) : Type 0 where
  pub extension : Extension
  pub list : SignedCertificateTimestampList
  pub one : with_oid embedded_timestamps (members part.extensions) ≡ extension ∷ []
  pub holds : IsDer signed_certificate_timestamp_list list extension.extn_value
  pub are : IsTimestampList timestamps list.0

-- The octets of an extension hold no list of timestamps: they are the OCTET STRING of none, or what that holds is no list, by its first fault.
abbrev pub HoldsNoList : List ℕ → LogError → Type 0
HoldsNoList octets e =
    ((refusal : DerError) × (e ≡ Der refusal) × (((refusal.kind ≡ Overlength) × (limit < length octets))
    ⊎ ((refusal.kind ≡ Malformed) × ((list : SignedCertificateTimestampList) → IsDer signed_certificate_timestamp_list list octets → ⊥))))
    ⊎ ((list : SignedCertificateTimestampList) × IsDer signed_certificate_timestamp_list list octets
    × (fault : TlsError) × ListFault uint16 serialized list.0 fault × (e ≡ Tls fault))

-- why a certificate that has the extension once gives no timestamps: out of memory, or the extension holds no list
abbrev pub LacksTimestamps : {P : Type 0} → TbsCertificateInner P → LogError → Type 0
LacksTimestamps part e =
    IsMemory e ⊎ ((extension : Extension) × (with_oid embedded_timestamps (members part.extensions) ≡ extension ∷ []) × HoldsNoList extension.extn_value e)

-- the entry that a log has of a certificate: the hash of its issuer's key, and its TBSCertificate without the timestamps
pub record IsEmbedded {P : Type 0} (form : DerForm (TbsCertificateInner P)) (part issuer : TbsCertificateInner P) (embedded : EmbeddedTimestamps) : Type 0 where
  pub one : HasOne embedded_timestamps part
  pub octets : IsDer form (without_timestamps part) embedded.tbs_certificate.items
  pub key_hash : embedded.issuer_key_hash ≡ sha256 (spelling subject_public_key_info issuer.subject_public_key_info)
  pub timestamps : AreTimestamps part embedded.timestamps.items

abbrev pub entry_of_embedded : EmbeddedTimestamps → Entry
entry_of_embedded embedded = inr (embedded.issuer_key_hash, embedded.tbs_certificate.items)

-- what its bytes say, and the octets that its signature is over
pub record IsSigned (entry : Entry) (serialized : SerializedSct) (signed : SignedTimestamp) : Type 0 where
  pub says : Spells timestamp signed.timestamp serialized.octets
  pub octets : Spells signed_input (signed.timestamp.version, (CertificateTimestamp, (signed.timestamp.timestamp, (entry, signed.timestamp.extensions)))) signed.octets.items

-- Why there is no input of a signature: out of memory; its bytes are no timestamp, by the first fault; or the TBSCertificate is none that an entry holds.
abbrev pub IsUnsigned : List ℕ → SerializedSct → LogError → Type 0
IsUnsigned part it e =
    IsMemory e ⊎ (((fault : TlsError) × IsWholeFault timestamp it.octets fault × (e ≡ Tls fault))
    ⊎ ((e ≡ Tls InvalidVectorLength) × (vector24.good part → ⊥)))
