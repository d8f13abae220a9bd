-- The entries of logs (RFC 6962 3.1, 3.4, 4.6).
use Rattle.std.specs.Prelude.{ℕ, List, [], ◌∷◌, refl, ◌≡◌, ◌⊎◌}
use Rattle.std.proofs.Common.{inl, inr}
use Rattle.x509_log.specs.Listed.{listed, listed_lawful}
use Rattle.x509_log.specs.declared.chain.PrecertChainEntry.{PrecertChainEntry}
use Rattle.x509_log.specs.declared.leaf.LogEntry.{LogEntry}
use Rattle.x509_log.specs.declared.leaf.LogEntry.TheVariants as entries
use Rattle.x509_log.specs.declared.leaf.LoggedPreCert.{LoggedPreCert}
use Rattle.x509_log.specs.declared.leaf.MerkleLeafType.{MerkleLeafType}
use Rattle.x509_log.specs.declared.leaf.MerkleLeafType.TheVariants as leaf_types
use Rattle.x509_log.specs.declared.leaf.MerkleTreeLeaf.{MerkleTreeLeaf}
use Rattle.x509_log.specs.declared.leaf.TimestampedEntry.{TimestampedEntry}
use Rattle.x509_sct.specs.Form.{Form, IsForm, named, select, struct, ◌⊗◌}
use Rattle.x509_sct.specs.FormLaws.{AreNamed, counted_lawful, fixed_lawful, named_lawful, pair_lawful, select_lawful, struct_lawful}
use Rattle.x509_sct.specs.ItemsLaws.{items_lawful}
use Rattle.x509_sct.specs.Numbers.{uint16, uint16_lawful, uint24, uint24_lawful, uint64, uint64_lawful, vector16, vector16_lawful, vector24, vector24_lawful}
use Rattle.x509_sct.specs.SignedInput.{pre_cert}
use Rattle.x509_sct.specs.Timestamp.{version, versions_named}
use Rattle.x509_sct.specs.declared.timestamp.Version.{Version}
use Rattle.x509_log.specs.Vectors.{vector24_moves}

-- ---- leaves

-- PreCert: issuer_key_hash: opaque[32], tbs_certificate: opaque<1..2^24-1>
abbrev pub logged_pre_cert : Form LoggedPreCert
logged_pre_cert = struct (λ p. (p.issuer_key_hash, p.tbs_certificate)) (λ (issuer_key_hash, tbs_certificate). record { issuer_key_hash = issuer_key_hash; tbs_certificate = tbs_certificate }) pre_cert

pub logged_pre_cert_lawful : IsForm logged_pre_cert
logged_pre_cert_lawful = struct_lawful _ _ pre_cert (λ v. refl) (λ x. refl) (pair_lawful _ _ (fixed_lawful 32) vector24_lawful)

abbrev pub entry_cases : LogEntry → List ℕ ⊎ LoggedPreCert
entry_cases (entries.X509 certificate) = inl certificate
entry_cases (entries.Precert precertificate) = inr precertificate

abbrev pub entry_of_case : List ℕ ⊎ LoggedPreCert → LogEntry
entry_of_case (inl certificate) = entries.X509 certificate
entry_of_case (inr precertificate) = entries.Precert precertificate

-- entry_type: enum { x509_entry(0), precert_entry(1), (65535) }, signed_entry: select { case x509_entry: opaque<1..2^24-1>, case precert_entry: PreCert }
abbrev pub log_entry : Form LogEntry
log_entry = struct entry_cases entry_of_case (select uint16 vector24 logged_pre_cert)

back : (entry : LogEntry) → entry_of_case (entry_cases entry) ≡ entry
back (entries.X509 certificate) = refl
back (entries.Precert precertificate) = refl

there : (case : List ℕ ⊎ LoggedPreCert) → entry_cases (entry_of_case case) ≡ case
there (inl certificate) = refl
there (inr precertificate) = refl

pub log_entry_lawful : IsForm log_entry
log_entry_lawful = struct_lawful _ _ _ back there (select_lawful uint16 vector24 logged_pre_cert uint16_lawful vector24_lawful logged_pre_cert_lawful)

-- TimestampedEntry: timestamp: uint64, entry_type and signed_entry, extensions: opaque<0..2^16-1>
unfoldable pub timestamped_entry_fields : Form (ℕ × (LogEntry × List ℕ))
timestamped_entry_fields = uint64 ⊗ log_entry ⊗ vector16

abbrev pub timestamped_entry : Form TimestampedEntry
timestamped_entry = struct (λ e. (e.timestamp, (e.entry, e.extensions))) (λ (timestamp, (entry, extensions)). record { timestamp = timestamp; entry = entry; extensions = extensions }) timestamped_entry_fields

pub timestamped_entry_lawful : IsForm timestamped_entry
unfolding timestamped_entry_fields
timestamped_entry_lawful = struct_lawful _ _ timestamped_entry_fields (λ v. refl) (λ x. refl) (pair_lawful _ _ uint64_lawful (pair_lawful _ _ log_entry_lawful vector16_lawful))

-- MerkleLeafType: enum { timestamped_entry(0), (255) }
abbrev pub leaf_type_byte : MerkleLeafType → ℕ
leaf_type_byte leaf_types.TimestampedEntry = 0

abbrev pub leaf_types_all : List MerkleLeafType
leaf_types_all = leaf_types.TimestampedEntry ∷ []

pub leaf_types_named : AreNamed leaf_type_byte leaf_types_all
leaf_types_named = elim [ leaf_types.TimestampedEntry ↦ refl ]

abbrev pub leaf_type : Form MerkleLeafType
leaf_type = named leaf_type_byte leaf_types_all

-- MerkleTreeLeaf: version: Version, leaf_type: MerkleLeafType, select (leaf_type) { case timestamped_entry: TimestampedEntry }
unfoldable pub merkle_tree_leaf_fields : Form (Version × (MerkleLeafType × TimestampedEntry))
merkle_tree_leaf_fields = version ⊗ leaf_type ⊗ timestamped_entry

abbrev pub merkle_tree_leaf : Form MerkleTreeLeaf
merkle_tree_leaf = struct (λ l. (l.version, (l.leaf_type, l.timestamped_entry))) (λ (version, (leaf_type, timestamped_entry)). record { version = version; leaf_type = leaf_type; timestamped_entry = timestamped_entry }) merkle_tree_leaf_fields

pub merkle_tree_leaf_lawful : IsForm merkle_tree_leaf
unfolding merkle_tree_leaf_fields
merkle_tree_leaf_lawful = struct_lawful _ _ merkle_tree_leaf_fields (λ v. refl) (λ x. refl) (pair_lawful _ _ (named_lawful _ _ versions_named) (pair_lawful _ _ (named_lawful _ _ leaf_types_named) timestamped_entry_lawful))

-- ---- chains

-- ASN.1Cert<0..2^24-1>, each opaque<1..2^24-1>
abbrev pub certificate_chain : Form (List (List ℕ))
certificate_chain = listed uint24 vector24

pub certificate_chain_lawful : IsForm certificate_chain
certificate_chain_lawful = listed_lawful uint24 vector24 (counted_lawful uint24 uint24_lawful) (items_lawful vector24 vector24_lawful vector24_moves)

-- PrecertChainEntry: pre_certificate: ASN.1Cert, precertificate_chain: ASN.1Cert<0..2^24-1>
abbrev pub precert_chain_entry : Form PrecertChainEntry
precert_chain_entry = struct (λ e. (e.pre_certificate, e.precertificate_chain)) (λ (pre_certificate, precertificate_chain). record { pre_certificate = pre_certificate; precertificate_chain = precertificate_chain }) (vector24 ⊗ certificate_chain)

pub precert_chain_entry_lawful : IsForm precert_chain_entry
precert_chain_entry_lawful = struct_lawful _ _ (vector24 ⊗ certificate_chain) (λ v. refl) (λ x. refl) (pair_lawful _ _ vector24_lawful certificate_chain_lawful)
