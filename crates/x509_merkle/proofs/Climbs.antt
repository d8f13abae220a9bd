-- A tree's levels from below: a step a level, by the number of a node and that of the last one.
use Rattle.std.proofs.Common.{◌≡◌, ◌∙◌, ℕ, zero, suc, ◌+◌, ◌*◌, ◌/◌, ◌%◌, ◌^◌, ◌<◌, ◌≤◌, ◌⊎◌, inl, inr, refl, arith}
use Rattle.std.proofs.lemmas.Nat.{pow_pos}
use Rattle.x509_merkle.proofs.Halves.{doubled, whole_half, half_again, odd_or_even}

-- so many levels up
unfoldable pub climb : {S : Type 0} → (ℕ → ℕ → S → S) → ℕ → ℕ → ℕ → S → S
climb step zero node last s = s
climb step (suc level) node last s = climb step level (node / 2) (last / 2) (step node last s)

odd_or_below : (node a b p : ℕ) → node < p + p → p + p ≤ a + 1 → p + p ≤ b + 1 → (node % 2 ≡ 1) ⊎ ((node < a) × (node < b))
odd_or_below node a b p m j k = elim (odd_or_even node) [ inl odd ↦ inl odd | inr even ↦ inr (omega arith, omega arith) ]

module _ {S : Type 0} (step : ℕ → ℕ → S → S) where
  -- the topmost step last
  pub climb_top : (l node last : ℕ) (s : S) → climb step (suc l) node last s ≡ step (node / 2 ^ l) (last / 2 ^ l) (climb step l node last s)
  unfolding climb
  climb_top zero node last s = rw (whole_half node, whole_half last) refl
  climb_top (suc l) node last s =
      climb_top l (node / 2) (last / 2) (step node last s)
      ∙ rw (half_again node l, half_again last l) refl

  -- in a full subtree, its own last node serves as well as that of the whole tree
  pub climb_full : ((node a b : ℕ) (s : S) → (node % 2 ≡ 1) ⊎ ((node < a) × (node < b)) → step node a s ≡ step node b s)
      → (l node a b : ℕ) (s : S) → node < 2 ^ l → 2 ^ l ≤ a + 1 → 2 ^ l ≤ b + 1 → climb step l node a s ≡ climb step l node b s
  unfolding climb
  climb_full same zero node a b s m j k = refl
  climb_full same (suc l) node a b s m j k =
      let double = doubled l in
      let e : step node a s ≡ step node b s = same node a b s (odd_or_below node a b (2 ^ l) (omega arith) (omega arith) (omega arith)) in
      rw e (climb_full same l (node / 2) (a / 2) (b / 2) (step node b s) (omega arith) (omega arith) (omega arith))

-- where steps are the same at nodes so far to the right, so are climbs
pub climb_shift : {S : Type 0} (step other : ℕ → ℕ → S → S)
    → ((node last c : ℕ) (s : S) → 0 < c → step (node + 2 * c) (last + 2 * c) s ≡ other node last s)
    → (l node last : ℕ) (s : S) → climb step l (node + 2 ^ l) (last + 2 ^ l) s ≡ climb other l node last s
unfolding climb
climb_shift step other same zero node last s = refl
climb_shift step other same (suc l) node last s =
    let double : 2 ^ suc l ≡ 2 * 2 ^ l = omega (arith, doubled l) in
    let a : (node + 2 * 2 ^ l) / 2 ≡ node / 2 + 2 ^ l = omega arith in
    let b : (last + 2 * 2 ^ l) / 2 ≡ last / 2 + 2 ^ l = omega arith in
    rw (double, a, b, same node last (2 ^ l) s (pow_pos l)) (climb_shift step other same l (node / 2) (last / 2) (other node last s))

pub climb_shifted : {S : Type 0} (step other : ℕ → ℕ → S → S)
    → ((node last c : ℕ) (s : S) → 0 < c → step (node + 2 * c) (last + 2 * c) s ≡ other node last s)
    → (l m last node before : ℕ) (s : S) → m ≡ node + 2 ^ l → last ≡ before + 2 ^ l → climb step l m last s ≡ climb other l node before s
climb_shifted step other same l m last node before s a b = rw (a, b) (climb_shift step other same l node before s)

-- A climb from here, with enough levels, whatever their number, ends so.
pub record Ends {S : Type 0} (step : ℕ → ℕ → S → S) (node last : ℕ) (s end : S) : Type 0 where
  pub by_levels : (l : ℕ) → last < 2 ^ l → climb step l node last s ≡ end

module _ {S : Type 0} (step : ℕ → ℕ → S → S) (end : S) where
  pub Ends-up : (node last : ℕ) (s : S) → Ends step node last s end → Ends step (node / 2) (last / 2) (step node last s) end
  unfolding climb
  Ends-up node last s e = record { by_levels = λ l few. e.by_levels (suc l) (omega (arith, doubled l)) }

  pub Ends-top : (node last : ℕ) (s : S) → Ends step node last s end → last ≤ 0 → s ≡ end
  unfolding climb
  Ends-top node last s e top = e.by_levels 0 (omega arith)
