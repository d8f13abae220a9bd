-- What the signature of a timestamp is over (RFC 6962 3.2).
use Rattle.std.specs.Prelude.{ℕ, ◌⊎◌, List, [], ◌∷◌, refl}
use Rattle.std.proofs.Common.{inl, inr}
use Rattle.x509_sct.specs.Form.{Form, IsForm, fixed, named, ◌⊗◌, select}
use Rattle.x509_sct.specs.FormLaws.{AreNamed, fixed_lawful, named_lawful, pair_lawful, select_lawful}
use Rattle.x509_sct.specs.Numbers.{uint16, uint16_lawful, uint64, uint64_lawful, vector16, vector16_lawful, vector24, vector24_lawful}
use Rattle.x509_sct.specs.Timestamp.{version, versions_named}
use Rattle.x509_sct.specs.declared.entry.SignatureType.{SignatureType}
use Rattle.x509_sct.specs.declared.entry.SignatureType.TheVariants.{CertificateTimestamp, TreeHash}
use Rattle.x509_sct.specs.declared.entry.SignedEntry.{SignedEntry}
use Rattle.x509_sct.specs.declared.entry.SignedEntry.TheVariants.{X509, Precert}
use Rattle.x509_sct.specs.declared.timestamp.SignedCertificateTimestamp.{SignedCertificateTimestamp}
use Rattle.x509_sct.specs.declared.timestamp.Version.{Version}

-- enum { certificate_timestamp(0), tree_hash(1), (255) }
abbrev pub signature_type_byte : SignatureType → ℕ
signature_type_byte CertificateTimestamp = 0
signature_type_byte TreeHash = 1

abbrev pub signature_types : List SignatureType
signature_types = CertificateTimestamp ∷ TreeHash ∷ []

pub signature_types_named : AreNamed signature_type_byte signature_types
signature_types_named = elim [ CertificateTimestamp ↦ refl | TreeHash ↦ refl ]

abbrev pub signature_type : Form SignatureType
signature_type = named signature_type_byte signature_types

-- the octets of a certificate, or the hash of the issuer's key and the octets of a precertificate's TBSCertificate
abbrev pub Entry : Type 0
Entry = List ℕ ⊎ (List ℕ × List ℕ)

-- PreCert: issuer_key_hash: opaque[32], tbs_certificate: opaque<1..2^24-1>
abbrev pub pre_cert : Form (List ℕ × List ℕ)
pre_cert = fixed 32 ⊗ vector24

-- enum { x509_entry(0), precert_entry(1), (65535) }, and select { case x509_entry: opaque<1..2^24-1>, case precert_entry: PreCert }
abbrev pub signed_entry : Form Entry
signed_entry = select uint16 vector24 pre_cert

-- sct_version: Version, signature_type: SignatureType, timestamp: uint64, entry_type and signed_entry, extensions: opaque<0..2^16-1>
unfoldable pub signed_input : Form (Version × (SignatureType × (ℕ × (Entry × List ℕ))))
signed_input = version ⊗ signature_type ⊗ uint64 ⊗ signed_entry ⊗ vector16

pub signed_input_lawful : IsForm signed_input
unfolding signed_input
signed_input_lawful =
    pair_lawful _ _ (named_lawful _ _ versions_named) (pair_lawful _ _ (named_lawful _ _ signature_types_named) (pair_lawful _ _ uint64_lawful
    (pair_lawful _ _ (select_lawful uint16 vector24 pre_cert uint16_lawful vector24_lawful (pair_lawful _ _ (fixed_lawful 32) vector24_lawful)) vector16_lawful)))

abbrev pub entry_of : SignedEntry → Entry
entry_of (X509 certificate) = inl certificate.now
entry_of (Precert pre_cert) = inr (pre_cert.issuer_key_hash, pre_cert.tbs_certificate.now)

-- the octets of the certificate or of the TBSCertificate
abbrev pub certificate_of : SignedEntry → List ℕ
certificate_of (X509 certificate) = certificate.now
certificate_of (Precert pre_cert) = pre_cert.tbs_certificate.now

-- what is signed of a timestamp of that entry: signature_type is certificate_timestamp
abbrev pub signed_of : SignedCertificateTimestamp → SignedEntry → Version × (SignatureType × (ℕ × (Entry × List ℕ)))
signed_of timestamp entry = (timestamp.version, (CertificateTimestamp, (timestamp.timestamp, (entry_of entry, timestamp.extensions))))
