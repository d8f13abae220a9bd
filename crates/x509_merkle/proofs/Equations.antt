-- The definitions by level have the equations of the standard.
use Rattle.std.proofs.Common.{◌≡◌, ◌∙◌, ℕ, zero, suc, ◌-◌, ◌^◌, ◌<◌, ◌≤◌, inl, inr, Bool, true, false, List, [], ◌∷◌, ◌++◌, length, take, drop, refl, sym, ap, arith, length-drop}
use Rattle.std.proofs.lemmas.Bool.{cases_eq, lt-ltb, le-ltb, le-leb, lt-leb, eq-eqb, ne_eqb}
use Rattle.std.proofs.lemmas.List.{length-take-le}
use Rattle.x509_merkle.specs.Merkle.{Octets, node_hash, hash_at, tree_hash, path_at, audit_path, same_proof, subproof_at, subproof}
use Rattle.x509_merkle.specs.Standard.{IsSplit, IsTreeHash, IsAuditPath, IsSubproof}
use Rattle.x509_merkle.proofs.Halves.{doubled, below_power, same_levels}
use Rattle.x509_merkle.proofs.Splits.{hash_at_any, hash_at_split}

module _ (hash : Octets → Octets) where
  split_level : (e : ℕ) (leaves : List Octets) → IsSplit e leaves → length leaves ≤ 2 ^ suc e
  split_level e leaves (long, short) = omega (arith, doubled e)

  front_level : (e : ℕ) (leaves : List Octets) → IsSplit e leaves → length (take (2 ^ e) leaves) ≤ 2 ^ e
  front_level e leaves (long, short) = omega (arith, length-take-le (2 ^ e) leaves (omega arith))

  back_level : (e : ℕ) (leaves : List Octets) → IsSplit e leaves → length (drop (2 ^ e) leaves) ≤ 2 ^ e
  back_level e leaves (long, short) = omega (arith, length-drop (2 ^ e) leaves)

  pub tree_hash_splits : (e : ℕ) (leaves : List Octets) → IsSplit e leaves
      → tree_hash hash leaves ≡ node_hash hash (tree_hash hash (take (2 ^ e) leaves)) (tree_hash hash (drop (2 ^ e) leaves))
  tree_hash_splits e leaves split =
      sym (hash_at_any hash (suc e) leaves (split_level e leaves split))
      ∙ hash_at_split hash e leaves split.0
      ∙ rw (hash_at_any hash e (take (2 ^ e) leaves) (front_level e leaves split), hash_at_any hash e (drop (2 ^ e) leaves) (back_level e leaves split)) refl

  pub tree_hash_is : IsTreeHash hash (tree_hash hash)
  unfolding tree_hash hash_at
  tree_hash_is = record {
    empty = refl;
    one = λ entry. refl;
    more = λ e leaves split. tree_hash_splits e leaves split;
  }

  path_at_up : (m : ℕ) (leaves : List Octets) (l : ℕ) → length leaves ≤ 2 ^ l → path_at hash (suc l) m leaves ≡ path_at hash l m leaves
  unfolding path_at
  path_at_up m leaves l few = rw (le-leb (length leaves) (2 ^ l) few) refl

  path_at_any : (m : ℕ) (leaves : List Octets) (l : ℕ) → length leaves ≤ 2 ^ l → path_at hash l m leaves ≡ audit_path hash m leaves
  unfolding audit_path
  path_at_any m leaves l few =
      same_levels (λ k. path_at hash k m leaves) (length leaves) (λ k more. path_at_up m leaves k more) l (length leaves) few (omega (arith, below_power (length leaves)))

  path_left : (e m : ℕ) (leaves : List Octets) → IsSplit e leaves → m < 2 ^ e
      → path_at hash (suc e) m leaves ≡ path_at hash e m (take (2 ^ e) leaves) ++ hash_at hash e (drop (2 ^ e) leaves) ∷ []
  unfolding path_at
  path_left e m leaves (long, short) first = rw (lt-leb (length leaves) (2 ^ e) long, lt-ltb m (2 ^ e) first) refl

  path_right : (e m : ℕ) (leaves : List Octets) → IsSplit e leaves → 2 ^ e ≤ m
      → path_at hash (suc e) m leaves ≡ path_at hash e (m - 2 ^ e) (drop (2 ^ e) leaves) ++ hash_at hash e (take (2 ^ e) leaves) ∷ []
  unfolding path_at
  path_right e m leaves (long, short) second = rw (lt-leb (length leaves) (2 ^ e) long, le-ltb m (2 ^ e) second) refl

  path_one : (entry : Octets) → audit_path hash 0 (entry ∷ []) ≡ []
  unfolding audit_path path_at
  path_one entry = refl

  pub audit_path_is : IsAuditPath (tree_hash hash) (audit_path hash)
  audit_path_is = record {
    one = path_one;
    left = λ e m leaves split first.
        sym (path_at_any m leaves (suc e) (split_level e leaves split)) ∙ path_left e m leaves split first
        ∙ rw (path_at_any m (take (2 ^ e) leaves) e (front_level e leaves split), hash_at_any hash e (drop (2 ^ e) leaves) (back_level e leaves split)) refl;
    right = λ e m leaves split second inside.
        sym (path_at_any m leaves (suc e) (split_level e leaves split)) ∙ path_right e m leaves split second
        ∙ rw (path_at_any (m - 2 ^ e) (drop (2 ^ e) leaves) e (back_level e leaves split), hash_at_any hash e (take (2 ^ e) leaves) (front_level e leaves split)) refl;
  }

  subproof_same : (l : ℕ) (leaves : List Octets) (b : Bool) → length leaves ≤ 2 ^ l → subproof_at hash l (length leaves) leaves b ≡ same_proof b (tree_hash hash leaves)
  unfolding subproof_at
  subproof_same zero leaves b few = ap (same_proof b) (hash_at_any hash zero leaves few)
  subproof_same (suc l) leaves b few = rw (eq-eqb (length leaves) (length leaves) refl) (ap (same_proof b) (hash_at_any hash (suc l) leaves few))

  subproof_whole : (leaves : List Octets) (b : Bool) → subproof hash (length leaves) leaves b ≡ same_proof b (tree_hash hash leaves)
  unfolding subproof
  subproof_whole leaves b = subproof_same (length leaves) leaves b (omega (arith, below_power (length leaves)))

  subproof_at_up : (m : ℕ) (leaves : List Octets) (b : Bool) (l : ℕ) → length leaves ≤ 2 ^ l → (m ≡ length leaves → ⊥)
      → subproof_at hash (suc l) m leaves b ≡ subproof_at hash l m leaves b
  unfolding subproof_at
  subproof_at_up m leaves b l few differ = rw (ne_eqb m (length leaves) differ, le-leb (length leaves) (2 ^ l) few) refl

  subproof_at_any : (m : ℕ) (leaves : List Octets) (b : Bool) (l : ℕ) → length leaves ≤ 2 ^ l → subproof_at hash l m leaves b ≡ subproof hash m leaves b
  unfolding subproof
  subproof_at_any m leaves b l few = elim (cases_eq m (length leaves)) [
    | inl same ↦ rw same (subproof_same l leaves b few ∙ sym (subproof_same (length leaves) leaves b (omega (arith, below_power (length leaves)))))
    | inr differ ↦
        same_levels (λ k. subproof_at hash k m leaves b) (length leaves) (λ k more. subproof_at_up m leaves b k more differ) l (length leaves) few
        (omega (arith, below_power (length leaves)))
  ]

  subproof_left : (e m : ℕ) (leaves : List Octets) (b : Bool) → IsSplit e leaves → m ≤ 2 ^ e
      → subproof_at hash (suc e) m leaves b ≡ subproof_at hash e m (take (2 ^ e) leaves) b ++ hash_at hash e (drop (2 ^ e) leaves) ∷ []
  unfolding subproof_at
  subproof_left e m leaves b (long, short) first =
      rw (ne_eqb m (length leaves) (λ same. absurd (omega arith)), lt-leb (length leaves) (2 ^ e) long, le-leb m (2 ^ e) first) refl

  subproof_right : (e m : ℕ) (leaves : List Octets) (b : Bool) → IsSplit e leaves → 2 ^ e < m → m < length leaves
      → subproof_at hash (suc e) m leaves b ≡ subproof_at hash e (m - 2 ^ e) (drop (2 ^ e) leaves) false ++ hash_at hash e (take (2 ^ e) leaves) ∷ []
  unfolding subproof_at
  subproof_right e m leaves b (long, short) second inside =
      rw (ne_eqb m (length leaves) (λ same. absurd (omega arith)), lt-leb (length leaves) (2 ^ e) long, lt-leb m (2 ^ e) second) refl

  pub subproof_is : IsSubproof (tree_hash hash) (subproof hash)
  unfolding same_proof
  subproof_is = record {
    known = λ leaves. subproof_whole leaves true;
    unknown = λ leaves. subproof_whole leaves false;
    left = λ e m leaves b split first.
        sym (subproof_at_any m leaves b (suc e) (split_level e leaves split)) ∙ subproof_left e m leaves b split first
        ∙ rw (subproof_at_any m (take (2 ^ e) leaves) b e (front_level e leaves split), hash_at_any hash e (drop (2 ^ e) leaves) (back_level e leaves split)) refl;
    right = λ e m leaves b split second inside.
        sym (subproof_at_any m leaves b (suc e) (split_level e leaves split)) ∙ subproof_right e m leaves b split second inside
        ∙ rw (subproof_at_any (m - 2 ^ e) (drop (2 ^ e) leaves) false e (back_level e leaves split), hash_at_any hash e (take (2 ^ e) leaves) (front_level e leaves split)) refl;
  }
