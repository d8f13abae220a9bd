-- The recursive equations of RFC 6962, as it writes them: 2 ^ e is k, the largest power of two smaller than n, that is, k < n ≤ 2k.
use Rattle.std.specs.Prelude.{◌≡◌, ℕ, ◌-◌, ◌*◌, ◌^◌, ◌<◌, ◌≤◌, Bool, true, false, List, [], ◌∷◌, ◌++◌, length, take, drop}
use Rattle.x509_merkle.specs.Merkle.{Octets, leaf_hash, node_hash}

-- k = 2 ^ e is the largest power of two smaller than the number of leaves
abbrev pub IsSplit : ℕ → List Octets → Type 0
IsSplit e leaves = (2 ^ e < length leaves) × (length leaves ≤ 2 * 2 ^ e)

-- MTH (2.1)
pub record IsTreeHash (hash : Octets → Octets) (mth : List Octets → Octets) : Type 0 where
  pub empty : mth [] ≡ hash []
  pub one : (entry : Octets) → mth (entry ∷ []) ≡ leaf_hash hash entry
  pub more : (e : ℕ) (leaves : List Octets) → IsSplit e leaves → mth leaves ≡ node_hash hash (mth (take (2 ^ e) leaves)) (mth (drop (2 ^ e) leaves))

-- PATH, by MTH (2.1.1)
pub record IsAuditPath (mth : List Octets → Octets) (path : ℕ → List Octets → List Octets) : Type 0 where
  pub one : (entry : Octets) → path 0 (entry ∷ []) ≡ []
  pub left : (e m : ℕ) (leaves : List Octets) → IsSplit e leaves → m < 2 ^ e
      → path m leaves ≡ path m (take (2 ^ e) leaves) ++ mth (drop (2 ^ e) leaves) ∷ []
  pub right : (e m : ℕ) (leaves : List Octets) → IsSplit e leaves → 2 ^ e ≤ m → m < length leaves
      → path m leaves ≡ path (m - 2 ^ e) (drop (2 ^ e) leaves) ++ mth (take (2 ^ e) leaves) ∷ []

-- SUBPROOF, by MTH (2.1.2)
pub record IsSubproof (mth : List Octets → Octets) (subproof : ℕ → List Octets → Bool → List Octets) : Type 0 where
  pub known : (leaves : List Octets) → subproof (length leaves) leaves true ≡ []
  pub unknown : (leaves : List Octets) → subproof (length leaves) leaves false ≡ mth leaves ∷ []
  pub left : (e m : ℕ) (leaves : List Octets) (b : Bool) → IsSplit e leaves → m ≤ 2 ^ e
      → subproof m leaves b ≡ subproof m (take (2 ^ e) leaves) b ++ mth (drop (2 ^ e) leaves) ∷ []
  pub right : (e m : ℕ) (leaves : List Octets) (b : Bool) → IsSplit e leaves → 2 ^ e < m → m < length leaves
      → subproof m leaves b ≡ subproof (m - 2 ^ e) (drop (2 ^ e) leaves) false ++ mth (take (2 ^ e) leaves) ∷ []
