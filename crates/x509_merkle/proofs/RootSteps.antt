-- The root from an audit path, a level at a time.
use Rattle.std.proofs.Common.{◌≡◌, ◌∙◌, ℕ, zero, suc, ◌+◌, ◌-◌, ◌*◌, ◌/◌, ◌%◌, ◌^◌, ◌<◌, ◌≤◌, ◌==◌, nat_lt, cond, ◌⊎◌, inl, inr, true, false, List, [], ◌∷◌, length, Some, None, refl, sym, ap, subst, arith}
use Rattle.std.proofs.lemmas.Bool.{cases_lt, lt-ltb, le-ltb, le-leb, lt-leb, eqb-true, eqb-false}
use Rattle.x509_merkle.proofs.Halves.{length_zero}
use Rattle.x509_merkle.specs.Merkle.{Octets, node_hash, Computed, next, whole, root_at, recomputed_root}
use Rattle.x509_merkle.proofs.Halves.{doubled, below_power, none_above, one_above, odd_or_even, same_levels}
use Rattle.x509_merkle.proofs.Climbs.{climb, climb_top, climb_full, climb_shifted, Ends, Ends-up, Ends-top}

-- one level up: a node of odd number is a right one; the last node of even number has no other beside it
abbrev pub node_step : {X : Type 0} (with_right with_left : X → Octets → X) → ℕ → ℕ → Computed X → Computed X
node_step with_right with_left node last c = cond (node % 2 == 1) (next with_left c) (cond (nat_lt node last) (next with_right c) c)

module _ {X : Type 0} (with_right with_left : X → Octets → X) where
  abbrev Step : ℕ → ℕ → Computed X → Computed X
  Step = node_step with_right with_left

  pub step_left : (node last : ℕ) (c : Computed X) → node % 2 ≡ 1 → Step node last c ≡ next with_left c
  step_left node last c odd = rw (odd) refl

  pub step_right : (node last : ℕ) (c : Computed X) → node % 2 ≡ 0 → node < last → Step node last c ≡ next with_right c
  step_right node last c even inner = rw (even, lt-ltb node last inner) refl

  pub step_alone : (node last : ℕ) (c : Computed X) → node % 2 ≡ 0 → last ≤ node → Step node last c ≡ c
  step_alone node last c even end = rw (even, le-ltb node last end) refl

  pub step_full : (node a b : ℕ) (c : Computed X) → (node % 2 ≡ 1) ⊎ ((node < a) × (node < b)) → Step node a c ≡ Step node b c
  step_full node a b c (inl odd) = step_left node a c odd ∙ sym (step_left node b c odd)
  step_full node a b c (inr (under, below)) = rw (lt-ltb node a under, lt-ltb node b below) refl

  pub step_shift : (node last k : ℕ) (c : Computed X) → 0 < k → Step (node + 2 * k) (last + 2 * k) c ≡ Step node last c
  step_shift node last k c some =
      let same : (node + 2 * k) % 2 ≡ node % 2 = omega arith in
      rw same (elim (cases_lt node last) [
        | inl under ↦ (let more : node + 2 * k < last + 2 * k = omega arith in rw (lt-ltb node last under, lt-ltb (node + 2 * k) (last + 2 * k) more) refl)
        | inr over ↦ (let more : last + 2 * k ≤ node + 2 * k = omega arith in rw (le-ltb node last over, le-ltb (node + 2 * k) (last + 2 * k) more) refl)
      ])

  pub step_none : (node last : ℕ) → Step node last None ≡ None
  unfolding next
  step_none node last = elim (odd_or_even node) [
    | inl odd ↦ step_left node last None odd
    | inr even ↦ elim (cases_lt node last) [ inl inner ↦ step_right node last None even inner | inr end ↦ step_alone node last None even end ]
  ]

module _ (hash : Octets → Octets) where
  abbrev pub hash_step : ℕ → ℕ → Computed Octets → Computed Octets
  hash_step = node_step (λ left right. node_hash hash left right) (λ right left. node_hash hash left right)

  climb_root : (leaf : Octets) (path : List Octets) (l m n : ℕ) → m < n → n ≤ 2 ^ l
      → climb hash_step l m (n - 1) (Some (leaf, path)) ≡ root_at hash l leaf m n path
  unfolding root_at
  climb_root leaf path zero m n in_range few = unfold climb in refl
  climb_root leaf path (suc l) m n in_range few = elim (cases_lt (2 ^ l) n) [
    | inr short ↦
        rw (le-leb n (2 ^ l) short, climb_top hash_step l m (n - 1) (Some (leaf, path)), none_above m l (omega arith), none_above (n - 1) l (omega arith))
        (climb_root leaf path l m n in_range short)
    | inl long ↦ rw (lt-leb n (2 ^ l) long, climb_top hash_step l m (n - 1) (Some (leaf, path)), one_above (n - 1) l (omega arith) (omega arith))
        (elim (cases_lt m (2 ^ l)) [
          | inl left ↦ rw (lt-ltb m (2 ^ l) left, none_above m l left)
              (ap (next (λ left right. node_hash hash left right))
              (climb_full hash_step (step_full (λ left right. node_hash hash left right) (λ right left. node_hash hash left right))
              l m (n - 1) (2 ^ l - 1) (Some (leaf, path)) left (omega arith) (omega arith)
              ∙ climb_root leaf path l m (2 ^ l) left (omega arith)))
          | inr right ↦ rw (le-ltb m (2 ^ l) right, one_above m l right (omega arith))
              (ap (next (λ right left. node_hash hash left right))
              (climb_shifted hash_step hash_step (step_shift (λ left right. node_hash hash left right) (λ right left. node_hash hash left right))
              l m (n - 1) (m - 2 ^ l) (n - 2 ^ l - 1) (Some (leaf, path)) (omega arith) (omega arith)
              ∙ climb_root leaf path l (m - 2 ^ l) (n - 2 ^ l) (omega arith) (omega (arith, doubled l))))
        ])
  ]

  root_at_up : (leaf : Octets) (path : List Octets) (l m n : ℕ) → n ≤ 2 ^ l → root_at hash (suc l) leaf m n path ≡ root_at hash l leaf m n path
  unfolding root_at
  root_at_up leaf path l m n few = rw (le-leb n (2 ^ l) few) refl

  -- the levels above the root change nothing
  root_at_any : (leaf : Octets) (path : List Octets) (l m n : ℕ) → n ≤ 2 ^ l → root_at hash l leaf m n path ≡ root_at hash n leaf m n path
  root_at_any leaf path l m n few = same_levels (λ k. root_at hash k leaf m n path) n (λ k more. root_at_up leaf path k m n more) l n few (omega (arith, below_power n))

  pub Ends-start : (leaf : Octets) (path : List Octets) (m n : ℕ) → m < n
      → Ends hash_step m (n - 1) (Some (leaf, path)) (root_at hash n leaf m n path)
  Ends-start leaf path m n in_range = record {
    by_levels = λ l few. climb_root leaf path l m n in_range (omega arith) ∙ root_at_any leaf path l m n (omega arith);
  }

  climb_none : (l m last : ℕ) → climb hash_step l m last None ≡ None
  unfolding climb
  climb_none zero m last = refl
  climb_none (suc l) m last = rw (step_none (λ left right. node_hash hash left right) (λ right left. node_hash hash left right) m last) (climb_none l (m / 2) (last / 2))

  pub Ends-none : (m last : ℕ) (end : Computed Octets) → Ends hash_step m last None end → end ≡ None
  Ends-none m last end e = sym (e.by_levels last (below_power last)) ∙ climb_none last m last

  module _ (node last : ℕ) (h : Octets) (path : List Octets) (end : Computed Octets) (ends : Ends hash_step node last (Some (h, path)) end) where
    pub Ends-left : (left : Octets) (above : List Octets) → path ≡ left ∷ above → node % 2 ≡ 1
        → Ends hash_step (node / 2) (last / 2) (Some (node_hash hash left h, above)) end
    unfolding next
    Ends-left left above e odd =
        subst (λ s. Ends hash_step (node / 2) (last / 2) s end)
        (rw e (step_left (λ left right. node_hash hash left right) (λ right left. node_hash hash left right) node last (Some (h, left ∷ above)) odd))
        (Ends-up hash_step end node last (Some (h, path)) ends)

    pub Ends-right : (right : Octets) (above : List Octets) → path ≡ right ∷ above → (node % 2 ≡ 1 → ⊥) → node < last
        → Ends hash_step (node / 2) (last / 2) (Some (node_hash hash h right, above)) end
    unfolding next
    Ends-right right above e even inner =
        subst (λ s. Ends hash_step (node / 2) (last / 2) s end)
        (rw e (step_right (λ left right. node_hash hash left right) (λ right left. node_hash hash left right) node last (Some (h, right ∷ above)) (omega arith) inner))
        (Ends-up hash_step end node last (Some (h, path)) ends)

    pub Ends-alone : (node % 2 ≡ 1 → ⊥) → last ≤ node → Ends hash_step (node / 2) (last / 2) (Some (h, path)) end
    Ends-alone even over =
        subst (λ s. Ends hash_step (node / 2) (last / 2) s end)
        (step_alone (λ left right. node_hash hash left right) (λ right left. node_hash hash left right) node last (Some (h, path)) (omega arith) over)
        (Ends-up hash_step end node last (Some (h, path)) ends)

    pub no_left : length path ≡ 0 → node % 2 ≡ 1 → whole end ≡ None
    unfolding next whole
    no_left short odd =
        let e : path ≡ [] = length_zero path short in
        rw (Ends-none (node / 2) (last / 2) end (subst (λ s. Ends hash_step (node / 2) (last / 2) s end)
        (rw e (step_left (λ left right. node_hash hash left right) (λ right left. node_hash hash left right) node last (Some (h, [])) odd))
        (Ends-up hash_step end node last (Some (h, path)) ends))) refl

    pub no_right : length path ≡ 0 → (node % 2 ≡ 1 → ⊥) → node < last → whole end ≡ None
    unfolding next whole
    no_right short even inner =
        let e : path ≡ [] = length_zero path short in
        rw (Ends-none (node / 2) (last / 2) end (subst (λ s. Ends hash_step (node / 2) (last / 2) s end)
        (rw e (step_right (λ left right. node_hash hash left right) (λ right left. node_hash hash left right) node last (Some (h, [])) (omega arith) inner))
        (Ends-up hash_step end node last (Some (h, path)) ends))) refl

  pub root_where_empty : (node last : ℕ) (h : Octets) (path : List Octets) (end : Computed Octets) → Ends hash_step node last (Some (h, path)) end → last ≤ 0
      → true ≡ (length path == 0) → whole end ≡ Some h
  unfolding whole
  root_where_empty node last h path end ends top short =
      rw (← Ends-top hash_step end node last (Some (h, path)) ends top, length_zero path (eqb-true (length path) 0 (sym short))) refl

  pub none_where_left : (node last : ℕ) (h : Octets) (path : List Octets) (end : Computed Octets) → Ends hash_step node last (Some (h, path)) end → last ≤ 0
      → false ≡ (length path == 0) → whole end ≡ None
  unfolding whole
  none_where_left node last h [] end ends top some = absurd (eqb-false (length {A = Octets} []) 0 (sym some) refl)
  none_where_left node last h (next_hash ∷ path) end ends top some = rw (← Ends-top hash_step end node last (Some (h, next_hash ∷ path)) ends top) refl

  pub recomputed_in : (leaf : Octets) (m n : ℕ) (path : List Octets) → m < n → recomputed_root hash leaf m n path ≡ whole (root_at hash n leaf m n path)
  unfolding recomputed_root
  recomputed_in leaf m n path in_range = rw (lt-ltb m n in_range) refl

  pub recomputed_outside : (leaf : Octets) (m n : ℕ) (path : List Octets) → n ≤ m → recomputed_root hash leaf m n path ≡ None
  unfolding recomputed_root
  recomputed_outside leaf m n path outside = rw (le-ltb m n outside) refl
