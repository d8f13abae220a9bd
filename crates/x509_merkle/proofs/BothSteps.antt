-- Both roots from a consistency proof, a level at a time.
use Rattle.std.proofs.Common.{◌≡◌, ◌∙◌, ℕ, zero, suc, ◌+◌, ◌-◌, ◌*◌, ◌/◌, ◌%◌, ◌^◌, ◌<◌, ◌≤◌, ◌==◌, eqb, cond, ◌⊎◌, inl, inr, Bool, true, false, ◌&&◌, List, [], ◌∷◌, length, Some, None, refl, sym, ap, subst, arith}
use Rattle.std.proofs.lemmas.Bool.{cases_lt, lt-ltb, le-leb, lt-leb, eq-eqb, ne_eqb, eqb-true, eqb-false}
use Rattle.std.proofs.lemmas.Nat.{pow_pos}
use Rattle.x509_merkle.specs.Merkle.{Octets, Computed, next, whole, Roots, same_roots, with_new, with_old, roots_at, recomputed_roots}
use Rattle.x509_merkle.proofs.Halves.{doubled, below_power, none_above, one_above, same_levels, length_zero}
use Rattle.x509_merkle.proofs.Climbs.{climb, climb_top, climb_full, climb_shifted, Ends, Ends-up, Ends-top}
use Rattle.x509_merkle.proofs.RootSteps.{node_step, step_left, step_right, step_alone, step_none, step_full, step_shift}

-- below the subtree whose hash begins the proof, and from there on
pub data Rising : Type 0 where
  waiting : Rising
  at : Computed Roots → Rising

module _ (hash : Octets → Octets) (old_root : Octets) (proof : List Octets) where
  abbrev pub roots_step : ℕ → ℕ → Computed Roots → Computed Roots
  roots_step = node_step (with_new hash) (with_old hash)

  -- what is known at that node
  abbrev pub begun : Bool → ℕ → Computed Roots
  begun b node = same_roots old_root (b && (node == 0)) proof

  unfoldable pub both_step : Bool → ℕ → ℕ → Rising → Rising
  both_step b node last waiting = cond (node % 2 == 1) waiting (at (roots_step node last (begun b node)))
  both_step b node last (at c) = at (roots_step node last c)

  both_full : (b : Bool) (node l k : ℕ) (s : Rising) → (node % 2 ≡ 1) ⊎ ((node < l) × (node < k)) → both_step b node l s ≡ both_step b node k s
  unfolding both_step
  both_full b node l k waiting h =
      ap (λ c. cond (node % 2 == 1) waiting (at c)) (step_full (with_new hash) (with_old hash) node l k (begun b node) h)
  both_full b node l k (at c) h = ap at (step_full (with_new hash) (with_old hash) node l k c h)

  shifted_unknown : (node last k : ℕ) → 0 < k
      → cond ((node + 2 * k) % 2 == 1) waiting (at (roots_step (node + 2 * k) (last + 2 * k) (same_roots old_root false proof)))
      ≡ cond (node % 2 == 1) waiting (at (roots_step node last (same_roots old_root false proof)))
  shifted_unknown node last k some =
      let same : (node + 2 * k) % 2 ≡ node % 2 = omega arith in
      ap (λ (r : ℕ). cond (r == 1) waiting (at (roots_step (node + 2 * k) (last + 2 * k) (same_roots old_root false proof)))) same
      ∙ ap (λ c. cond (node % 2 == 1) waiting (at c)) (step_shift (with_new hash) (with_old hash) node last k (same_roots old_root false proof) some)

  both_shift : (b : Bool) (node last k : ℕ) (s : Rising) → 0 < k → both_step b (node + 2 * k) (last + 2 * k) s ≡ both_step false node last s
  unfolding both_step
  both_shift true node last k waiting some =
      let inner : eqb (node + 2 * k) 0 ≡ false = ne_eqb (node + 2 * k) 0 (λ e. absurd (omega arith)) in
      ap (λ (e : Bool). cond ((node + 2 * k) % 2 == 1) waiting (at (roots_step (node + 2 * k) (last + 2 * k) (same_roots old_root e proof)))) inner
      ∙ shifted_unknown node last k some
  both_shift false node last k waiting some = shifted_unknown node last k some
  both_shift b node last k (at c) some = ap at (step_shift (with_new hash) (with_old hash) node last k c some)

  -- the last node of a full subtree
  climb_ones : (b : Bool) (l last : ℕ) → climb (both_step b) l (2 ^ l - 1) last waiting ≡ waiting
  unfolding climb both_step
  climb_ones b zero last = refl
  climb_ones b (suc l) last =
      let odd : (2 ^ suc l - 1) % 2 ≡ 1 = omega (arith, doubled l, pow_pos l) in
      let half : (2 ^ suc l - 1) / 2 ≡ 2 ^ l - 1 = omega (arith, doubled l, pow_pos l) in
      rw (odd, half) (climb_ones b l (last / 2))

  roots_same : (b : Bool) (l m : ℕ) → roots_at hash old_root l m m b proof ≡ same_roots old_root b proof
  unfolding roots_at
  roots_same b zero m = refl
  roots_same b (suc l) m = rw (eq-eqb m m refl) refl

  first_begun : (b : Bool) → at (roots_step 0 1 (same_roots old_root (b && true) proof)) ≡ at (next (with_new hash) (same_roots old_root b proof))
  first_begun true = refl
  first_begun false = refl

  -- the first half of a split tree
  climb_first : (b : Bool) (l m n : ℕ) → m ≤ 2 ^ l → 0 < m → 2 ^ l < n
      → ((m < 2 ^ l) → climb (both_step b) l (m - 1) (2 ^ l - 1) waiting ≡ at (roots_at hash old_root l m (2 ^ l) b proof))
      → both_step b 0 1 (climb (both_step b) l (m - 1) (n - 1) waiting) ≡ at (next (with_new hash) (roots_at hash old_root l m (2 ^ l) b proof))
  unfolding both_step
  climb_first b l m n first some long before = elim (cases_lt m (2 ^ l)) [
    | inl part ↦ rw (climb_full (both_step b) (both_full b) l (m - 1) (n - 1) (2 ^ l - 1) waiting (omega arith) (omega arith) (omega arith), before part) refl
    | inr all ↦
        let e : m ≡ 2 ^ l = omega arith in
        rw (e, climb_ones b l (n - 1), roots_same b l (2 ^ l)) (first_begun b)
  ]

  climb_roots : (l : ℕ) (b : Bool) (m n : ℕ) → 0 < m → m < n → n ≤ 2 ^ l → climb (both_step b) l (m - 1) (n - 1) waiting ≡ at (roots_at hash old_root l m n b proof)
  unfolding roots_at
  climb_roots zero b m n some older few = absurd (omega arith)
  climb_roots (suc l) b m n some older few = elim (cases_lt (2 ^ l) n) [
    | inr short ↦
        rw (
          ne_eqb m n (λ e. absurd (omega arith)),
          le-leb n (2 ^ l) short,
          climb_top (both_step b) l (m - 1) (n - 1) waiting,
          none_above (m - 1) l (omega arith),
          none_above (n - 1) l (omega arith),
          climb_roots l b m n some older short,
        ) (unfold both_step in refl)
    | inl long ↦
        rw (ne_eqb m n (λ e. absurd (omega arith)), lt-leb n (2 ^ l) long, climb_top (both_step b) l (m - 1) (n - 1) waiting, one_above (n - 1) l (omega arith) (omega arith))
        (elim (cases_lt (2 ^ l) m) [
          | inr first ↦ rw (le-leb m (2 ^ l) first, none_above (m - 1) l (omega arith))
              (climb_first b l m n first some long (λ part. climb_roots l b m (2 ^ l) some part (omega arith)))
          | inl second ↦
              rw (
                lt-leb m (2 ^ l) second,
                one_above (m - 1) l (omega arith) (omega arith),
                climb_shifted (both_step b) (both_step false) (both_shift b) l (m - 1) (n - 1) (m - 2 ^ l - 1) (n - 2 ^ l - 1) waiting (omega arith) (omega arith),
                climb_roots l false (m - 2 ^ l) (n - 2 ^ l) (omega arith) (omega arith) (omega (arith, doubled l)),
              )
              (unfold both_step in refl)
        ])
  ]

  roots_at_up : (l m n : ℕ) (b : Bool) → n ≤ 2 ^ l → m < n → roots_at hash old_root (suc l) m n b proof ≡ roots_at hash old_root l m n b proof
  unfolding roots_at
  roots_at_up l m n b few older = rw (ne_eqb m n (λ e. absurd (omega arith)), le-leb n (2 ^ l) few) refl

  roots_at_any : (l m n : ℕ) (b : Bool) → m < n → n ≤ 2 ^ l → roots_at hash old_root l m n b proof ≡ roots_at hash old_root n m n b proof
  roots_at_any l m n b older few =
      same_levels (λ k. roots_at hash old_root k m n b proof) n (λ k more. roots_at_up k m n b more older) l n few (omega (arith, below_power n))

  pub Rises-start : (m n : ℕ) → 0 < m → m < n → Ends (both_step true) (m - 1) (n - 1) waiting (at (roots_at hash old_root n m n true proof))
  Rises-start m n some older = record {
    by_levels = λ l few. climb_roots l true m n some older (omega arith) ∙ ap at (roots_at_any l m n true older (omega arith));
  }

  abbrev Rises : ℕ → ℕ → Rising → Computed Roots → Type 0
  Rises node last s end = Ends (both_step true) node last s (at end)

  is_waiting : Rising → Bool
  is_waiting waiting = true
  is_waiting (at c) = false

  abbrev computed : Rising → Computed Roots
  computed waiting = None
  computed (at c) = c

  -- a level below the subtree
  pub Rises-odd : (node last : ℕ) (end : Computed Roots) → Rises node last waiting end → node % 2 ≡ 1 → Rises (node / 2) (last / 2) waiting end
  unfolding both_step
  Rises-odd node last end e odd =
      subst (λ s. Rises (node / 2) (last / 2) s end) (rw odd refl) (Ends-up (both_step true) (at end) node last waiting e)

  begins : (node last l : ℕ) (end : Rising) → (node % 2 ≡ 1 → ⊥) → climb (both_step true) (suc l) node last waiting ≡ end
      → climb (both_step true) (suc l) node last (at (begun true node)) ≡ end
  unfolding climb both_step
  begins node last l end even e =
      ap (λ b. climb (both_step true) l (node / 2) (last / 2) (cond b waiting (at (roots_step node last (begun true node))))) (sym (ne_eqb (node % 2) 1 even)) ∙ e

  begins_at : (node last l : ℕ) (end : Computed Roots) → last < 2 ^ l → Rises node last waiting end → (node % 2 ≡ 1 → ⊥)
      → climb (both_step true) l node last (at (begun true node)) ≡ at end
  begins_at node last zero end few e even = absurd (unfold climb in (let h : waiting ≡ at end = e.by_levels 0 few in cc))
  begins_at node last (suc l) end few e even = begins node last l (at end) even (e.by_levels (suc l) few)

  -- the subtree's own level
  pub Rises-begun : (node last : ℕ) (end : Computed Roots) → Rises node last waiting end → (node % 2 ≡ 1 → ⊥) → Rises node last (at (begun true node)) end
  Rises-begun node last end e even = record { by_levels = λ l few. begins_at node last l end few e even }

  pub begun_first : (node : ℕ) → node ≡ 0 → begun true node ≡ Some (record { old = old_root; new = old_root }, proof)
  unfolding same_roots
  begun_first node e = rw e refl

  pub begun_next : (node : ℕ) (first : Octets) (above : List Octets) → (node ≡ 0 → ⊥) → proof ≡ first ∷ above
      → begun true node ≡ Some (record { old = first; new = first }, above)
  unfolding same_roots
  begun_next node first above other e = rw (ne_eqb node 0 other, e) refl

  climb_none : (l m last : ℕ) → climb (both_step true) l m last (at None) ≡ at None
  unfolding climb both_step
  climb_none zero m last = refl
  climb_none (suc l) m last = rw (step_none (with_new hash) (with_old hash) m last) (climb_none l (m / 2) (last / 2))

  Rises-none : (m last : ℕ) (end : Computed Roots) → Rises m last (at None) end → end ≡ None
  Rises-none m last end e = ap computed (sym (e.by_levels last (below_power last)) ∙ climb_none last m last)

  pub no_begin : (node last : ℕ) (end : Computed Roots) → Rises node last waiting end → (node % 2 ≡ 1 → ⊥) → (node ≡ 0 → ⊥) → length proof ≡ 0
      → whole end ≡ None
  unfolding whole same_roots
  no_begin node last end e even other short =
      let none : begun true node ≡ None = rw (ne_eqb node 0 other, length_zero proof short) refl in
      rw (Rises-none node last end (subst (λ c. Rises node last (at c) end) none (Rises-begun node last end e even))) refl

  module _ (node last : ℕ) (roots : Roots) (path : List Octets) (end : Computed Roots) (ends : Rises node last (at (Some (roots, path))) end) where
    up : Rises (node / 2) (last / 2) (both_step true node last (at (Some (roots, path)))) end
    up = Ends-up (both_step true) (at end) node last (at (Some (roots, path))) ends

    pub Rises-left : (left : Octets) (above : List Octets) → path ≡ left ∷ above → node % 2 ≡ 1
        → Rises (node / 2) (last / 2) (at (Some (with_old hash roots left, above))) end
    unfolding next both_step
    Rises-left left above e odd =
        subst (λ s. Rises (node / 2) (last / 2) s end)
        (rw e (ap at (step_left (with_new hash) (with_old hash) node last (Some (roots, left ∷ above)) odd))) up

    pub Rises-right : (right : Octets) (above : List Octets) → path ≡ right ∷ above → (node % 2 ≡ 1 → ⊥) → node < last
        → Rises (node / 2) (last / 2) (at (Some (with_new hash roots right, above))) end
    unfolding next both_step
    Rises-right right above e even inner =
        subst (λ s. Rises (node / 2) (last / 2) s end)
        (rw e (ap at (step_right (with_new hash) (with_old hash) node last (Some (roots, right ∷ above)) (omega arith) inner))) up

    pub Rises-alone : (node % 2 ≡ 1 → ⊥) → last ≤ node → Rises (node / 2) (last / 2) (at (Some (roots, path))) end
    unfolding both_step
    Rises-alone even over =
        subst (λ s. Rises (node / 2) (last / 2) s end)
        (ap at (step_alone (with_new hash) (with_old hash) node last (Some (roots, path)) (omega arith) over)) up

    pub no_left_root : length path ≡ 0 → node % 2 ≡ 1 → whole end ≡ None
    unfolding next whole both_step
    no_left_root short odd =
        let e : path ≡ [] = length_zero path short in
        rw (Rises-none (node / 2) (last / 2) end (subst (λ s. Rises (node / 2) (last / 2) s end)
        (rw e (ap at (step_left (with_new hash) (with_old hash) node last (Some (roots, [])) odd))) up)) refl

    pub no_right_root : length path ≡ 0 → (node % 2 ≡ 1 → ⊥) → node < last → whole end ≡ None
    unfolding next whole both_step
    no_right_root short even inner =
        let e : path ≡ [] = length_zero path short in
        rw (Rises-none (node / 2) (last / 2) end (subst (λ s. Rises (node / 2) (last / 2) s end)
        (rw e (ap at (step_right (with_new hash) (with_old hash) node last (Some (roots, [])) (omega arith) inner))) up)) refl

    pub ended : last ≤ 0 → Some (roots, path) ≡ end
    ended top = ap computed (Ends-top (both_step true) (at end) node last (at (Some (roots, path))) ends top)

  pub roots_where_empty : (roots : Roots) (path : List Octets) (end : Computed Roots) → Some (roots, path) ≡ end → true ≡ (length path == 0) → whole end ≡ Some roots
  unfolding whole
  roots_where_empty roots path end e short = rw (← e, length_zero path (eqb-true (length path) 0 (sym short))) refl

  pub none_where_more : (roots : Roots) (path : List Octets) (end : Computed Roots) → Some (roots, path) ≡ end → false ≡ (length path == 0) → whole end ≡ None
  unfolding whole
  none_where_more roots [] end e some = absurd (eqb-false (length {A = Octets} []) 0 (sym some) refl)
  none_where_more roots (first ∷ path) end e some = rw (← e) refl

  pub recomputed_older : (m n : ℕ) → (m ≡ 0 → ⊥) → m ≤ n → recomputed_roots hash old_root m n proof ≡ whole (roots_at hash old_root n m n true proof)
  unfolding recomputed_roots
  recomputed_older m n some older =
      let pos : 0 < m = omega arith in
      rw (lt-ltb 0 m pos, le-leb m n older) refl

  pub recomputed_none : (m n : ℕ) → (m ≡ 0) ⊎ ((m ≡ 0 → ⊥) × (n < m)) → recomputed_roots hash old_root m n proof ≡ None
  unfolding recomputed_roots
  recomputed_none m n (inl none) = rw none refl
  recomputed_none m n (inr (some, newer)) =
      let pos : 0 < m = omega arith in
      rw (lt-ltb 0 m pos, lt-leb m n newer) refl

  pub recomputed_same : (m n : ℕ) → (m ≡ 0 → ⊥) → m ≡ n
      → recomputed_roots hash old_root m n proof ≡ whole (Some (record { old = old_root; new = old_root }, proof))
  unfolding same_roots
  recomputed_same m n some e =
      recomputed_older m n some (omega arith) ∙ rw e (ap (λ c. whole c) (roots_same true n n))
