-- Trees, their paths and their proofs, level by level.
use Rattle.std.proofs.Common.{◌≡◌, ◌∙◌, ℕ, zero, suc, ◌+◌, ◌-◌, ◌^◌, ◌<◌, ◌≤◌, inl, inr, Bool, true, false, List, [], ◌∷◌, ◌++◌, length, take, drop, get_or, Some, refl, sym, ap, arith, append_assoc, length-drop}
use Rattle.std.proofs.lemmas.Bool.{cases_lt, cases_eq, lt-ltb, le-ltb, le-leb, lt-leb, eq-eqb, ne_eqb}
use Rattle.std.proofs.lemmas.List.{length-take-le, get_or-take, get_or-drop, drop-take}
use Rattle.std.proofs.Math.Seq.{take-length}
use Rattle.x509_merkle.specs.Merkle.{Octets, leaf_hash, node_hash, hash_at, tree_hash, path_at, next, root_at, same_proof, subproof_at, same_roots, roots_at}
use Rattle.x509_merkle.proofs.Halves.{doubled, below_power, same_levels}

pub take_of_take : (j k : ℕ) (xs : List Octets) → j ≤ k → take j (take k xs) ≡ take j xs
take_of_take zero k xs few = refl
take_of_take (suc j) zero xs few = absurd (omega arith)
take_of_take (suc j) (suc k) [] few = refl
take_of_take (suc j) (suc k) (x ∷ xs) few = ap (λ ys. x ∷ ys) (take_of_take j k xs (omega arith))

pub drop_of_take : (j k : ℕ) (xs : List Octets) → drop j (take (j + k) xs) ≡ take k (drop j xs)
drop_of_take j k xs = drop-take j k xs

module _ (hash : Octets → Octets) where
  pub hash_at_up : (l : ℕ) (leaves : List Octets) → length leaves ≤ 2 ^ l → hash_at hash (suc l) leaves ≡ hash_at hash l leaves
  unfolding hash_at
  hash_at_up l leaves few = rw (le-leb (length leaves) (2 ^ l) few) refl

  pub hash_at_any : (l : ℕ) (leaves : List Octets) → length leaves ≤ 2 ^ l → hash_at hash l leaves ≡ tree_hash hash leaves
  unfolding tree_hash
  hash_at_any l leaves few =
      same_levels (λ k. hash_at hash k leaves) (length leaves) (λ k more. hash_at_up k leaves more) l (length leaves) few (omega (arith, below_power (length leaves)))

  pub hash_at_split : (l : ℕ) (leaves : List Octets) → 2 ^ l < length leaves
      → hash_at hash (suc l) leaves ≡ node_hash hash (hash_at hash l (take (2 ^ l) leaves)) (hash_at hash l (drop (2 ^ l) leaves))
  unfolding hash_at
  hash_at_split l leaves many = rw (lt-leb (length leaves) (2 ^ l) many) refl

  path_leads_one : (d : Octets) (ds : List Octets) (m n : ℕ) (rest : List Octets) → m ≡ 0 → n ≡ 1
      → root_at hash zero (leaf_hash hash (get_or (d ∷ ds) m [])) m n (path_at hash zero m (d ∷ ds) ++ rest) ≡ Some (hash_at hash zero (d ∷ ds), rest)
  unfolding root_at path_at hash_at
  path_leads_one d ds m n rest first one = rw first refl

  pub path_leads : (l m n : ℕ) (leaves rest : List Octets) → m < n → n ≤ 2 ^ l → length leaves ≡ n
      → root_at hash l (leaf_hash hash (get_or leaves m [])) m n (path_at hash l m leaves ++ rest) ≡ Some (hash_at hash l leaves, rest)
  unfolding root_at path_at next
  path_leads zero m n [] rest in_range few is = absurd (omega arith)
  path_leads zero m n (d ∷ ds) rest in_range few is = path_leads_one d ds m n rest (omega arith) (omega arith)
  path_leads (suc l) m n leaves rest in_range few is = elim (cases_lt (2 ^ l) n) [
    | inr short ↦
        rw (le-leb n (2 ^ l) short, le-leb (length leaves) (2 ^ l) (omega arith), hash_at_up l leaves (omega arith))
        (path_leads l m n leaves rest in_range short is)
    | inl long ↦
        let front : length (take (2 ^ l) leaves) ≡ 2 ^ l = length-take-le (2 ^ l) leaves (omega arith) in
        let back : length (drop (2 ^ l) leaves) ≡ n - 2 ^ l = length-drop (2 ^ l) leaves ∙ omega arith in
        rw (lt-leb n (2 ^ l) long, lt-leb (length leaves) (2 ^ l) (omega arith), hash_at_split l leaves (omega arith))
        (elim (cases_lt m (2 ^ l)) [
          | inl left ↦
              rw (
                lt-ltb m (2 ^ l) left,
                append_assoc (path_at hash l m (take (2 ^ l) leaves)) (hash_at hash l (drop (2 ^ l) leaves) ∷ []) rest,
                ← get_or-take (2 ^ l) leaves m [] left,
                path_leads l m (2 ^ l) (take (2 ^ l) leaves) (hash_at hash l (drop (2 ^ l) leaves) ∷ rest) left (omega arith) front,
              ) refl
          | inr right ↦
              let same : get_or leaves m [] ≡ get_or (drop (2 ^ l) leaves) (m - 2 ^ l) [] = sym (get_or-drop (2 ^ l) leaves (m - 2 ^ l) [] ∙ ap (λ k. get_or leaves k []) (omega arith)) in
              rw (
                le-ltb m (2 ^ l) right,
                append_assoc (path_at hash l (m - 2 ^ l) (drop (2 ^ l) leaves)) (hash_at hash l (take (2 ^ l) leaves) ∷ []) rest,
                same,
                path_leads l (m - 2 ^ l) (n - 2 ^ l) (drop (2 ^ l) leaves) (hash_at hash l (take (2 ^ l) leaves) ∷ rest) (omega arith) (omega (arith, doubled l)) back,
              ) refl
        ])
  ]

  same_leads : (b : Bool) (old h : Octets) (rest : List Octets) → (b ≡ true → old ≡ h)
      → same_roots old b (same_proof b h ++ rest) ≡ Some (record { old = h; new = h }, rest)
  unfolding same_roots same_proof
  same_leads true old h rest is = rw (is refl) refl
  same_leads false old h rest is = refl

  proof_leads_one : (d : Octets) (ds : List Octets) (m : ℕ) → m ≡ 1 → length (d ∷ ds) ≡ 1 → hash_at hash zero (take m (d ∷ ds)) ≡ hash_at hash zero (d ∷ ds)
  proof_leads_one d ds m first one = ap (λ k. hash_at hash zero (take k (d ∷ ds))) (first ∙ sym one) ∙ ap (hash_at hash zero) (take-length (d ∷ ds))

  pub proof_leads : (l m n : ℕ) (leaves : List Octets) (b : Bool) (old : Octets) (rest : List Octets) → 0 < m → m ≤ n → n ≤ 2 ^ l → length leaves ≡ n
      → (b ≡ true → old ≡ hash_at hash l (take m leaves))
      → roots_at hash old l m n b (subproof_at hash l m leaves b ++ rest) ≡ Some (record { old = hash_at hash l (take m leaves); new = hash_at hash l leaves }, rest)
  unfolding roots_at subproof_at next
  proof_leads zero m n [] b old rest some within few is known = absurd (omega arith)
  proof_leads zero m n (d ∷ ds) b old rest some within few is known =
      let one = proof_leads_one d ds m (omega arith) (omega arith) in
      rw one (same_leads b old (hash_at hash zero (d ∷ ds)) rest (λ t. known t ∙ one))
  proof_leads (suc l) m n leaves b old rest some within few is known = elim (cases_eq m n) [
    | inl same ↦
        let all : take m leaves ≡ leaves = ap (λ k. take k leaves) (same ∙ sym is) ∙ take-length leaves in
        rw (eq-eqb m n same, eq-eqb m (length leaves) (same ∙ sym is), all)
        (same_leads b old (hash_at hash (suc l) leaves) rest (λ t. known t ∙ ap (hash_at hash (suc l)) all))
    | inr differ ↦
        let older : m < n = omega arith in
        let older_length : length (take m leaves) ≡ m = length-take-le m leaves (omega arith) in
        rw (ne_eqb m n differ, ne_eqb m (length leaves) (λ e. differ (e ∙ is)))
        (elim (cases_lt (2 ^ l) n) [
          | inr short ↦
              let up : hash_at hash (suc l) (take m leaves) ≡ hash_at hash l (take m leaves) = hash_at_up l (take m leaves) (omega arith) in
              rw (le-leb n (2 ^ l) short, le-leb (length leaves) (2 ^ l) (omega arith), hash_at_up l leaves (omega arith), up)
              (proof_leads l m n leaves b old rest some within short is (λ t. known t ∙ up))
          | inl long ↦
              let front : length (take (2 ^ l) leaves) ≡ 2 ^ l = length-take-le (2 ^ l) leaves (omega arith) in
              let back : length (drop (2 ^ l) leaves) ≡ n - 2 ^ l = length-drop (2 ^ l) leaves ∙ omega arith in
              rw (lt-leb n (2 ^ l) long, lt-leb (length leaves) (2 ^ l) (omega arith), hash_at_split l leaves (omega arith))
              (elim (cases_lt (2 ^ l) m) [
                | inr first ↦
                    let up : hash_at hash (suc l) (take m leaves) ≡ hash_at hash l (take m leaves) = hash_at_up l (take m leaves) (omega arith) in
                    let inner : take m (take (2 ^ l) leaves) ≡ take m leaves = take_of_take m (2 ^ l) leaves first in
                    rw (
                      le-leb m (2 ^ l) first,
                      append_assoc (subproof_at hash l m (take (2 ^ l) leaves) b) (hash_at hash l (drop (2 ^ l) leaves) ∷ []) rest,
                      up,
                      proof_leads l m (2 ^ l) (take (2 ^ l) leaves) b old (hash_at hash l (drop (2 ^ l) leaves) ∷ rest) some first (omega arith) front
                          (λ t. known t ∙ up ∙ ap (hash_at hash l) (sym inner)),
                      inner,
                    ) refl
                | inl second ↦
                    let inner : drop (2 ^ l) (take m leaves) ≡ take (m - 2 ^ l) (drop (2 ^ l) leaves) =
                    ap (λ k. drop (2 ^ l) (take k leaves)) (omega arith) ∙ drop_of_take (2 ^ l) (m - 2 ^ l) leaves in
                    let outer : take (2 ^ l) (take m leaves) ≡ take (2 ^ l) leaves = take_of_take (2 ^ l) m leaves (omega arith) in
                    rw (
                      lt-leb m (2 ^ l) second,
                      append_assoc (subproof_at hash l (m - 2 ^ l) (drop (2 ^ l) leaves) false) (hash_at hash l (take (2 ^ l) leaves) ∷ []) rest,
                      proof_leads l (m - 2 ^ l) (n - 2 ^ l) (drop (2 ^ l) leaves) false old (hash_at hash l (take (2 ^ l) leaves) ∷ rest) (omega arith) (omega arith)
                          (omega (arith, doubled l)) back (λ t. absurd (cc)),
                      hash_at_split l (take m leaves) (omega arith),
                      inner,
                      outer,
                    ) refl
              ])
        ])
  ]
