-- Where the parts of a leaf stand, and those of what comes beside one.
use Rattle.std.proofs.Common.{◌≡◌, ◌+◌, ℕ, List, [], ◌∷◌, ◌++◌, length, refl, sym, ap, ◌∙◌, subst, append_assoc, append-nil, length-append, arith}
use Rattle.x509_c_calls.proofs.SctParts.{stands}
use Rattle.x509_c_calls.specs.Leaves.{IsEntry, IsPrecertChain, behind_entry}
use Rattle.x509_c_calls.specs.Place.{IsAt}
use Rattle.x509_c_calls.specs.declared.log.leaf.LeafView.{LeafView}
use Rattle.x509_log.specs.Entries.{certificate_chain, leaf_type_byte, log_entry, merkle_tree_leaf, merkle_tree_leaf_fields, precert_chain_entry, timestamped_entry_fields}
use Rattle.x509_log.specs.declared.chain.PrecertChainEntry.{PrecertChainEntry}
use Rattle.x509_log.specs.declared.leaf.LogEntry.{LogEntry}
use Rattle.x509_log.specs.declared.leaf.LogEntry.TheVariants as entries
use Rattle.x509_log.specs.declared.leaf.LoggedPreCert.{LoggedPreCert}
use Rattle.x509_log.specs.declared.leaf.MerkleTreeLeaf.{MerkleTreeLeaf}
use Rattle.x509_sct.specs.Form.{Spells}
use Rattle.x509_sct.specs.Numbers.{uint16, uint24, uint64, vector16, vector24}
use Rattle.x509_sct.specs.Timestamp.{version_byte}

module _ (bytes : List ℕ) (it : MerkleTreeLeaf) (spells : Spells merkle_tree_leaf it bytes) where
  abbrev moment : List ℕ
  moment = uint64.bytes it.timestamped_entry.timestamp

  abbrev others : List ℕ
  others = it.timestamped_entry.extensions

  whole : bytes ≡ version_byte it.version ∷ leaf_type_byte it.leaf_type ∷ (moment ++ (log_entry.bytes it.timestamped_entry.entry ++ behind_entry it))
  unfolding merkle_tree_leaf_fields timestamped_entry_fields
  whole = spells.1

  good_entry : log_entry.good it.timestamped_entry.entry
  unfolding merkle_tree_leaf_fields timestamped_entry_fields
  good_entry = spells.0.1.1.1.0

  whole_with : (entry : LogEntry) → it.timestamped_entry.entry ≡ entry → bytes ≡ version_byte it.version ∷ leaf_type_byte it.leaf_type ∷ (moment ++ (log_entry.bytes entry ++ behind_entry it))
  whole_with entry is = subst (λ (e : LogEntry). bytes ≡ version_byte it.version ∷ leaf_type_byte it.leaf_type ∷ (moment ++ (log_entry.bytes e ++ behind_entry it))) is whole

  -- ---- of a certificate

  module _ (certificate : List ℕ) (is : it.timestamped_entry.entry ≡ entries.X509 certificate) where
    abbrev to_certificate : List ℕ
    to_certificate = version_byte it.version ∷ leaf_type_byte it.leaf_type ∷ (moment ++ (uint16.bytes 0 ++ uint24.bytes (length certificate)))

    at_certificate : bytes ≡ to_certificate ++ (certificate ++ behind_entry it)
    at_certificate = whole_with (entries.X509 certificate) is ∙ simp append_assoc refl

    pub certificate_at : (n : ℕ) → n ≡ length certificate → IsAt certificate (behind_entry it) bytes (record { place = 15; len = n })
    certificate_at n len = stands bytes to_certificate certificate (behind_entry it) 15 n at_certificate refl len

    at_extensions : bytes ≡ (to_certificate ++ (certificate ++ uint16.bytes (length others))) ++ (others ++ [])
    at_extensions = at_certificate ∙ simp (append_assoc, append-nil) refl

    pub extensions_at : (n m : ℕ) → n ≡ length certificate → m ≡ length others → IsAt others [] bytes (record { place = 17 + n; len = m })
    extensions_at n m len others_len =
        stands bytes (to_certificate ++ (certificate ++ uint16.bytes (length others))) others [] (17 + n) m at_extensions
        (omega (arith, len, length-append to_certificate (certificate ++ uint16.bytes (length others)), length-append certificate (uint16.bytes (length others)))) others_len

    pub certificate_entry : (view : LeafView) → view.entry_type ≡ 0 → view.issuer_key_hash ≡ record { place = 0; len = 0 }
        → IsAt certificate (behind_entry it) bytes view.certificate → IsEntry bytes it.timestamped_entry.entry (behind_entry it) view
    certificate_entry view kind none at = subst (λ (e : LogEntry). IsEntry bytes e (behind_entry it) view) (sym is) (kind, none, at)

  -- ---- of a precertificate

  module _ (p : LoggedPreCert) (is : it.timestamped_entry.entry ≡ entries.Precert p) where
    abbrev key_hash : List ℕ
    key_hash = p.issuer_key_hash

    hash_len : length key_hash ≡ 32
    hash_len = let good = subst (λ (e : LogEntry). log_entry.good e) is good_entry in good.1.0

    abbrev to_hash : List ℕ
    to_hash = version_byte it.version ∷ leaf_type_byte it.leaf_type ∷ (moment ++ uint16.bytes 1)

    at_hash : bytes ≡ to_hash ++ (key_hash ++ (vector24.bytes p.tbs_certificate ++ behind_entry it))
    at_hash = whole_with (entries.Precert p) is ∙ simp append_assoc refl

    pub hash_at : IsAt key_hash (vector24.bytes p.tbs_certificate ++ behind_entry it) bytes (record { place = 12; len = 32 })
    hash_at = stands bytes to_hash key_hash (vector24.bytes p.tbs_certificate ++ behind_entry it) 12 32 at_hash refl (sym hash_len)

    abbrev to_part : List ℕ
    to_part = to_hash ++ (key_hash ++ uint24.bytes (length p.tbs_certificate))

    at_part : bytes ≡ to_part ++ (p.tbs_certificate ++ behind_entry it)
    at_part = at_hash ∙ simp append_assoc refl

    part_place : length to_part ≡ 47
    part_place = omega (arith, hash_len, length-append to_hash (key_hash ++ uint24.bytes (length p.tbs_certificate)), length-append key_hash (uint24.bytes (length p.tbs_certificate)))

    pub part_at : (n : ℕ) → n ≡ length p.tbs_certificate → IsAt p.tbs_certificate (behind_entry it) bytes (record { place = 47; len = n })
    part_at n len = stands bytes to_part p.tbs_certificate (behind_entry it) 47 n at_part (sym part_place) len

    at_others : bytes ≡ (to_part ++ (p.tbs_certificate ++ uint16.bytes (length others))) ++ (others ++ [])
    at_others = at_part ∙ simp (append_assoc, append-nil) refl

    pub others_at : (n m : ℕ) → n ≡ length p.tbs_certificate → m ≡ length others → IsAt others [] bytes (record { place = 49 + n; len = m })
    others_at n m len others_len =
        stands bytes (to_part ++ (p.tbs_certificate ++ uint16.bytes (length others))) others [] (49 + n) m at_others
        (omega (arith, part_place, len, length-append to_part (p.tbs_certificate ++ uint16.bytes (length others)), length-append p.tbs_certificate (uint16.bytes (length others)))) others_len

    pub precertificate_entry : (view : LeafView) → view.entry_type ≡ 1 → IsAt key_hash (vector24.bytes p.tbs_certificate ++ behind_entry it) bytes view.issuer_key_hash
        → IsAt p.tbs_certificate (behind_entry it) bytes view.certificate → IsEntry bytes it.timestamped_entry.entry (behind_entry it) view
    precertificate_entry view kind hash at = subst (λ (e : LogEntry). IsEntry bytes e (behind_entry it) view) (sym is) (kind, hash, at)

-- ---- beside the entry of a precertificate

module _ (bytes : List ℕ) (it : PrecertChainEntry) (spells : Spells precert_chain_entry it bytes) where
  abbrev submitted : List ℕ
  submitted = it.pre_certificate

  abbrev chain : List ℕ
  chain = certificate_chain.bytes it.precertificate_chain

  at_submitted : bytes ≡ uint24.bytes (length submitted) ++ (submitted ++ chain)
  at_submitted = spells.1 ∙ append_assoc (uint24.bytes (length submitted)) submitted chain

  pub submitted_at : (n : ℕ) → n ≡ length submitted → IsAt submitted chain bytes (record { place = 3; len = n })
  submitted_at n len = stands bytes (uint24.bytes (length submitted)) submitted chain 3 n at_submitted refl len

  pub chain_at : (n m : ℕ) → n ≡ length submitted → m ≡ length chain → IsAt chain [] bytes (record { place = 3 + n; len = m })
  chain_at n m len chain_len =
      stands bytes (uint24.bytes (length submitted) ++ submitted) chain [] (3 + n) m (spells.1 ∙ simp (append_assoc, append-nil) refl)
      (omega (arith, len, length-append (uint24.bytes (length submitted)) submitted)) chain_len
