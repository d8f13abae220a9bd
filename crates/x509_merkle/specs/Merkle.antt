-- Merkle hash trees (RFC 6962 2.1), over any hash function from octets to octets: MTH, PATH and PROOF, and what a proof's reader computes from them.
--
-- Each is a recursion over the level of a tree: a tree of level l has at most 2 ^ l leaves. One of level l + 1 that has more than 2 ^ l of them is split at
-- k = 2 ^ l, the largest power of two smaller than n; another is a tree of level l. Since n ≤ 2 ^ n, a tree of n leaves is one of level n.
use Rattle.std.specs.Prelude.{ℕ, zero, suc, ◌-◌, ◌^◌, ◌==◌, nat_le, nat_lt, Bool, true, false, ◌&&◌, List, [], ◌∷◌, ◌++◌, length, take, drop, if◌then◌else◌, Option, Some, None}

abbrev pub Octets : Type 0
Octets = List ℕ

-- ---- hashes (2.1)

-- MTH({d(0)}) = HASH(0x00 || d(0))
abbrev pub leaf_hash : (Octets → Octets) → Octets → Octets
leaf_hash hash entry = hash (0 ∷ entry)

-- HASH(0x01 || left || right)
abbrev pub node_hash : (Octets → Octets) → Octets → Octets → Octets
node_hash hash left right = hash (1 ∷ (left ++ right))

-- MTH(D[n]), of a tree of that level. MTH({}) = HASH().
unfoldable pub hash_at : (Octets → Octets) → ℕ → List Octets → Octets
hash_at hash zero [] = hash []
hash_at hash zero (entry ∷ _) = leaf_hash hash entry
hash_at hash (suc level) leaves =
    if nat_le (length leaves) (2 ^ level) then hash_at hash level leaves
    else node_hash hash (hash_at hash level (take (2 ^ level) leaves)) (hash_at hash level (drop (2 ^ level) leaves))

-- MTH(D[n])
unfoldable pub tree_hash : (Octets → Octets) → List Octets → Octets
tree_hash hash leaves = hash_at hash (length leaves) leaves

-- ---- audit paths (2.1.1)

-- PATH(m, D[n]), of a tree of that level
unfoldable pub path_at : (Octets → Octets) → ℕ → ℕ → List Octets → List Octets
path_at hash zero m leaves = []
path_at hash (suc level) m leaves =
    if nat_le (length leaves) (2 ^ level) then path_at hash level m leaves
    else if nat_lt m (2 ^ level) then path_at hash level m (take (2 ^ level) leaves) ++ hash_at hash level (drop (2 ^ level) leaves) ∷ []
    else path_at hash level (m - 2 ^ level) (drop (2 ^ level) leaves) ++ hash_at hash level (take (2 ^ level) leaves) ∷ []

-- PATH(m, D[n])
unfoldable pub audit_path : (Octets → Octets) → ℕ → List Octets → List Octets
audit_path hash m leaves = path_at hash (length leaves) m leaves

-- What was computed from the first hashes of a proof, with those that are left; none where the proof was too short.
abbrev pub Computed : Type 0 → Type 0
Computed X = Option (X × List Octets)

-- what was computed, with the next hash of the proof
unfoldable pub next : {X : Type 0} → (X → Octets → X) → Computed X → Computed X
next f None = None
next f (Some (x, [])) = None
next f (Some (x, (hash ∷ proof))) = Some (f x hash, proof)

-- what was computed, where no hash of the proof is left
unfoldable pub whole : {X : Type 0} → Computed X → Option X
whole None = None
whole (Some (x, [])) = Some x
whole (Some (x, (hash ∷ proof))) = None

-- The root of a tree of that level and of n leaves, from the hash of leaf m and its audit path: the root of the subtree that has the leaf, from the first
-- hashes; the next one is that of the other subtree.
unfoldable pub root_at : (Octets → Octets) → ℕ → Octets → ℕ → ℕ → List Octets → Computed Octets
root_at hash zero leaf m n path = Some (leaf, path)
root_at hash (suc level) leaf m n path =
    if nat_le n (2 ^ level) then root_at hash level leaf m n path
    else if nat_lt m (2 ^ level) then next (λ left right. node_hash hash left right) (root_at hash level leaf m (2 ^ level) path)
    else next (λ right left. node_hash hash left right) (root_at hash level leaf (m - 2 ^ level) (n - 2 ^ level) path)

-- The root of a tree of n leaves, from the hash of leaf m and all of its audit path. There is none where the tree has no such leaf, or the path has another
-- number of hashes.
unfoldable pub recomputed_root : (Octets → Octets) → Octets → ℕ → ℕ → List Octets → Option Octets
recomputed_root hash leaf m n path = if nat_lt m n then whole (root_at hash n leaf m n path) else None

-- ---- consistency proofs (2.1.2)

-- SUBPROOF(m, D[m], b): b says that the proof's reader knows the hash, since it is that of the old tree
unfoldable pub same_proof : Bool → Octets → List Octets
same_proof true hash = []
same_proof false hash = hash ∷ []

-- SUBPROOF(m, D[n], b), of a tree of that level
unfoldable pub subproof_at : (Octets → Octets) → ℕ → ℕ → List Octets → Bool → List Octets
subproof_at hash zero m leaves b = same_proof b (hash_at hash zero leaves)
subproof_at hash (suc level) m leaves b =
    if m == length leaves then same_proof b (hash_at hash (suc level) leaves)
    else if nat_le (length leaves) (2 ^ level) then subproof_at hash level m leaves b
    else if nat_le m (2 ^ level) then subproof_at hash level m (take (2 ^ level) leaves) b ++ hash_at hash level (drop (2 ^ level) leaves) ∷ []
    else subproof_at hash level (m - 2 ^ level) (drop (2 ^ level) leaves) false ++ hash_at hash level (take (2 ^ level) leaves) ∷ []

-- SUBPROOF(m, D[n], b)
unfoldable pub subproof : (Octets → Octets) → ℕ → List Octets → Bool → List Octets
subproof hash m leaves b = subproof_at hash (length leaves) m leaves b

-- PROOF(m, D[n])
abbrev pub consistency_proof : (Octets → Octets) → ℕ → List Octets → List Octets
consistency_proof hash m leaves = subproof hash m leaves true

-- the hashes of the first m leaves and of all n
pub record Roots : Type 0 where
  pub old : Octets
  pub new : Octets

-- where m = n
unfoldable pub same_roots : Octets → Bool → List Octets → Computed Roots
same_roots old_root true proof = Some (record { old = old_root; new = old_root }, proof)
same_roots old_root false [] = None
same_roots old_root false (hash ∷ proof) = Some (record { old = hash; new = hash }, proof)

-- the tree on the right is new
abbrev pub with_new : (Octets → Octets) → Roots → Octets → Roots
with_new hash roots right = record { old = roots.old; new = node_hash hash roots.new right }

-- the tree on the left is old
abbrev pub with_old : (Octets → Octets) → Roots → Octets → Roots
with_old hash roots left = record { old = node_hash hash left roots.old; new = node_hash hash left roots.new }

-- both hashes, for a tree of that level
unfoldable pub roots_at : (Octets → Octets) → Octets → ℕ → ℕ → ℕ → Bool → List Octets → Computed Roots
roots_at hash old_root zero m n b proof = same_roots old_root b proof
roots_at hash old_root (suc level) m n b proof =
    if m == n then same_roots old_root b proof
    else if nat_le n (2 ^ level) then roots_at hash old_root level m n b proof
    else if nat_le m (2 ^ level) then next (with_new hash) (roots_at hash old_root level m (2 ^ level) b proof)
    else next (with_old hash) (roots_at hash old_root level (m - 2 ^ level) (n - 2 ^ level) false proof)

-- Both roots, from all of a proof and the old root, for 0 < m ≤ n. A proof is empty where m = n.
unfoldable pub recomputed_roots : (Octets → Octets) → Octets → ℕ → ℕ → List Octets → Option Roots
recomputed_roots hash old_root m n proof =
    if nat_lt 0 m && nat_le m n then whole (roots_at hash old_root n m n true proof) else None
