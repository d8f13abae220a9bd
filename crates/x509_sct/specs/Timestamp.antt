-- Signed certificate timestamps (RFC 6962 3.2).
use Rattle.std.specs.Prelude.{ℕ, List, [], ◌∷◌, refl}
use Rattle.x509_sct.specs.Form.{Form, IsForm, fixed, named, ◌⊗◌, struct}
use Rattle.x509_sct.specs.FormLaws.{AreNamed, fixed_lawful, named_lawful, pair_lawful, struct_lawful}
use Rattle.x509_sct.specs.Numbers.{uint64, uint64_lawful, vector16, vector16_lawful}
use Rattle.x509_sct.specs.DigitallySigned.{digitally_signed, digitally_signed_lawful}
use Rattle.x509_sct.specs.declared.signed.DigitallySigned.{DigitallySigned}
use Rattle.x509_sct.specs.declared.timestamp.Version.{Version}
use Rattle.x509_sct.specs.declared.timestamp.Version.TheVariants.{V1}
use Rattle.x509_sct.specs.declared.timestamp.LogId.{LogId}
use Rattle.x509_sct.specs.declared.timestamp.SignedCertificateTimestamp.{SignedCertificateTimestamp}

-- enum { v1(0), (255) }
abbrev pub version_byte : Version → ℕ
version_byte V1 = 0

pub versions_named : AreNamed version_byte (V1 ∷ [])
versions_named = elim [ V1 ↦ refl ]

abbrev pub version : Form Version
version = named version_byte (V1 ∷ [])

-- LogID: key_id: opaque[32]
abbrev pub log_id : Form LogId
log_id = struct (λ v. v.key_id) (λ x. record { key_id = x }) (fixed 32)

pub log_id_lawful : IsForm log_id
log_id_lawful = struct_lawful _ _ (fixed 32) (λ v. refl) (λ x. refl) (fixed_lawful 32)

-- SignedCertificateTimestamp: version: Version, log_id: LogID, timestamp: uint64, extensions: opaque<0..2^16-1>, signature: DigitallySigned
unfoldable pub timestamp_fields : Form (Version × (LogId × (ℕ × (List ℕ × DigitallySigned))))
timestamp_fields = version ⊗ log_id ⊗ uint64 ⊗ vector16 ⊗ digitally_signed

abbrev pub timestamp : Form SignedCertificateTimestamp
timestamp = struct (λ v. (v.version, (v.log_id, (v.timestamp, (v.extensions, v.signature))))) (λ (version, (log_id, (timestamp, (extensions, signature)))). record { version = version; log_id = log_id; timestamp = timestamp; extensions = extensions; signature = signature }) timestamp_fields

pub timestamp_lawful : IsForm timestamp
unfolding timestamp_fields
timestamp_lawful = struct_lawful _ _ timestamp_fields (λ v. refl) (λ x. refl) (pair_lawful _ _ (named_lawful _ _ versions_named) (pair_lawful _ _ log_id_lawful (pair_lawful _ _ uint64_lawful (pair_lawful _ _ vector16_lawful digitally_signed_lawful))))
