-- What the entries of logs say, by places: leaves and what a log gives beside them (RFC 6962 3.1, 3.4, 4.6), and what is signed of a tree head (3.5).
use Rattle.std.specs.Prelude.{◌≡◌, ◌⊎◌, ℕ, List, [], ◌∷◌, ◌++◌, length, Result, Ok, Err}
use Rattle.x509_c_calls.specs.Place.{IsAt}
use Rattle.x509_c_calls.specs.declared.log.leaf.LeafView.{LeafView}
use Rattle.x509_c_calls.specs.declared.log.leaf.PrecertChainView.{PrecertChainView}
use Rattle.x509_c_calls.specs.declared.place.span.Span.{Span}
use Rattle.x509_c_calls.specs.declared.status.status.Status.{Status}
use Rattle.x509_c_calls.specs.declared.status.status.Status.TheVariants.{Done, Refused}
use Rattle.x509_der.specs.declared.error.ErrorKind.{ErrorKind}
use Rattle.x509_der.specs.declared.error.ErrorKind.TheVariants as errors
use Rattle.x509_log.specs.Entries.{certificate_chain, leaf_type_byte, merkle_tree_leaf, precert_chain_entry}
use Rattle.x509_log.specs.TreeHead.{tree_head_input}
use Rattle.x509_log.specs.declared.chain.PrecertChainEntry.{PrecertChainEntry}
use Rattle.x509_log.specs.declared.leaf.LogEntry.{LogEntry}
use Rattle.x509_log.specs.declared.leaf.LogEntry.TheVariants as entries
use Rattle.x509_log.specs.declared.leaf.MerkleTreeLeaf.{MerkleTreeLeaf}
use Rattle.x509_sct.specs.Form.{Spells}
use Rattle.x509_sct.specs.Numbers.{vector16, vector24}
use Rattle.x509_sct.specs.Timestamp.{version_byte}
use Rattle.x509_sct.specs.declared.entry.SignatureType.TheVariants.{TreeHash}
use Rattle.x509_sct.specs.declared.timestamp.Version.TheVariants.{V1}

-- ---- leaves

-- what stands behind the entry
abbrev pub behind_entry : MerkleTreeLeaf → List ℕ
behind_entry it = vector16.bytes it.timestamped_entry.extensions

-- Of a certificate its place, and none of a key's hash; of a precertificate the places of the hash of the issuer's key and of the TBSCertificate.
abbrev pub IsEntry : List ℕ → LogEntry → List ℕ → LeafView → Type 0
IsEntry bytes (entries.X509 certificate) behind view =
    (view.entry_type ≡ 0) × (view.issuer_key_hash ≡ record { place = 0; len = 0 }) × IsAt certificate behind bytes view.certificate
IsEntry bytes (entries.Precert p) behind view =
    (view.entry_type ≡ 1) × IsAt p.issuer_key_hash (vector24.bytes p.tbs_certificate ++ behind) bytes view.issuer_key_hash × IsAt p.tbs_certificate behind bytes view.certificate

-- what the view says of a leaf in these bytes
pub record IsLeaf (bytes : List ℕ) (it : MerkleTreeLeaf) (view : LeafView) : Type 0 where
  pub version : view.version ≡ version_byte it.version
  pub leaf_type : view.leaf_type ≡ leaf_type_byte it.leaf_type
  pub timestamp : view.timestamp ≡ it.timestamped_entry.timestamp
  pub entry : IsEntry bytes it.timestamped_entry.entry (behind_entry it) view
  pub extensions : IsAt it.timestamped_entry.extensions [] bytes view.extensions

-- What a call leaves that reads a leaf: the bytes are one; or they are none, as Malformed, and the view is as it was; memory may always be refused.
unfoldable pub ReadsLeaf : List ℕ → LeafView → LeafView → Status → Type 0
ReadsLeaf bytes was is Done = (it : MerkleTreeLeaf) × Spells merkle_tree_leaf it bytes × IsLeaf bytes it is
ReadsLeaf bytes was is (Refused e) =
    ((e ≡ errors.Memory) ⊎ ((e ≡ errors.Malformed) × ((it : MerkleTreeLeaf) → Spells merkle_tree_leaf it bytes → ⊥))) × (is ≡ was)
ReadsLeaf bytes was is _ = ⊥

-- ---- beside the entry of a precertificate

-- the places of the precertificate and of its chain, which is a chain as beside the entry of a certificate
pub record IsPrecertChain (bytes : List ℕ) (it : PrecertChainEntry) (view : PrecertChainView) : Type 0 where
  pub precertificate : IsAt it.pre_certificate (certificate_chain.bytes it.precertificate_chain) bytes view.precertificate
  pub chain : IsAt (certificate_chain.bytes it.precertificate_chain) [] bytes view.chain

unfoldable pub ReadsPrecertChain : List ℕ → PrecertChainView → PrecertChainView → Status → Type 0
ReadsPrecertChain bytes was is Done = (it : PrecertChainEntry) × Spells precert_chain_entry it bytes × IsPrecertChain bytes it is
ReadsPrecertChain bytes was is (Refused e) =
    ((e ≡ errors.Memory) ⊎ ((e ≡ errors.Malformed) × ((it : PrecertChainEntry) → Spells precert_chain_entry it bytes → ⊥))) × (is ≡ was)
ReadsPrecertChain bytes was is _ = ⊥

-- ---- tree heads

-- the octets that the signature of the head of a tree is over, of version 1; a root hash that hasn't 32 octets is none
abbrev pub SignsTreeHead : ℕ → ℕ → List ℕ → Result (List ℕ) ErrorKind → Type 0
SignsTreeHead timestamp size root (Ok octets) = Spells tree_head_input (V1, (TreeHash, (timestamp, (size, root)))) octets
SignsTreeHead timestamp size root (Err e) = (e ≡ errors.Malformed) × (length root ≡ 32 → ⊥)
