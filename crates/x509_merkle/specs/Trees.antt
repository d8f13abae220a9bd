-- A tree whose leaves come one after the other: the hashes of its full subtrees (RFC 6962 2.1).
use Rattle.std.specs.Prelude.{◌≡◌, ℕ, suc, ◌+◌, ◌*◌, ◌^◌, List, [], ◌++◌, length, slice_index_or, Option, Some, None}
use Rattle.x509_merkle.specs.Merkle.{Octets, node_hash, hash_at}

-- The full subtrees of a tree, from those of that level upwards, which have `count` times 2 ^ level leaves: for each one of `count` as a binary number the
-- hash of a subtree, which stands at its level. The lowest one has the last leaves.
pub data Stands (hash : Octets → Octets) (hashes : List Octets) : (level count : ℕ) (leaves : List Octets) → Type 0 where
  none : {level count : ℕ} {leaves : List Octets} → count ≡ 0 → leaves ≡ [] → Stands hash hashes level count leaves
  even : {level count : ℕ} {leaves : List Octets} (half : ℕ) → count ≡ 2 * half → Stands hash hashes (suc level) half leaves
      → Stands hash hashes level count leaves
  odd : {level count : ℕ} {leaves : List Octets} (half : ℕ) (before last : List Octets) → count ≡ 2 * half + 1 → leaves ≡ before ++ last
      → length last ≡ 2 ^ level → slice_index_or hashes level [] ≡ hash_at hash level last → Stands hash hashes (suc level) half before
      → Stands hash hashes level count leaves

-- the hash of a subtree and what follows it, where something does
abbrev pub joined_hash : (Octets → Octets) → Octets → Option Octets → Octets
joined_hash hash left None = left
joined_hash hash left (Some right) = node_hash hash left right
