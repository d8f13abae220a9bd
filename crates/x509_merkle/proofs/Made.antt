-- Proofs that are made from a tree lead to its root.
use Rattle.std.proofs.Common.{◌≡◌, ℕ, ◌^◌, ◌<◌, ◌≤◌, true, List, [], length, take, get_or, Some, refl, sym, arith}
use Rattle.std.proofs.lemmas.Bool.{lt-ltb, le-leb}
use Rattle.std.proofs.lemmas.List.{append-nil, length-take-le}
use Rattle.x509_merkle.specs.Merkle.{Octets, leaf_hash, hash_at, tree_hash, path_at, audit_path, whole, recomputed_root, subproof_at, subproof, consistency_proof, recomputed_roots}
use Rattle.x509_merkle.proofs.Halves.{below_power}
use Rattle.x509_merkle.proofs.Splits.{hash_at_any, path_leads, proof_leads}

pub audit_path_leads : (hash : Octets → Octets) (leaves : List Octets) (m : ℕ) → m < length leaves
    → recomputed_root hash (leaf_hash hash (get_or leaves m [])) m (length leaves) (audit_path hash m leaves) ≡ Some (tree_hash hash leaves)
unfolding recomputed_root audit_path tree_hash whole
audit_path_leads hash leaves m in_range =
    let e = path_leads hash (length leaves) m (length leaves) leaves [] in_range (omega (arith, below_power (length leaves))) refl in
    rw (lt-ltb m (length leaves) in_range, ← append-nil (path_at hash (length leaves) m leaves), e) refl

pub consistency_proof_leads : (hash : Octets → Octets) (leaves : List Octets) (m : ℕ) → 0 < m → m ≤ length leaves
    → recomputed_roots hash (tree_hash hash (take m leaves)) m (length leaves) (consistency_proof hash m leaves)
    ≡ Some (record { old = tree_hash hash (take m leaves); new = tree_hash hash leaves })
unfolding recomputed_roots subproof whole
consistency_proof_leads hash leaves m some within =
    let levels : length leaves ≤ 2 ^ length leaves = omega (arith, below_power (length leaves)) in
    let fewer : length (take m leaves) ≡ m = length-take-le m leaves within in
    let old : hash_at hash (length leaves) (take m leaves) ≡ tree_hash hash (take m leaves) = hash_at_any hash (length leaves) (take m leaves) (omega arith) in
    let e = proof_leads hash (length leaves) m (length leaves) leaves true (tree_hash hash (take m leaves)) [] some within levels refl (λ _. sym old) in
    rw (
      lt-ltb 0 m some,
      le-leb m (length leaves) within,
      ← append-nil (subproof_at hash (length leaves) m leaves true),
      e,
      old,
      hash_at_any hash (length leaves) leaves levels,
    ) refl
