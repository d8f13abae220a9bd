-- Leaves that come one after the other.
use Rattle.std.proofs.Common.{◌≡◌, ◌∙◌, ℕ, zero, suc, ◌+◌, ◌*◌, ◌/◌, ◌%◌, ◌^◌, ◌<◌, ◌≤◌, ◌≢◌, inl, inr, List, [], ◌∷◌, ◌++◌, length, take, drop, get_or, set, Option, Some, None, refl, sym, ap, subst, arith, append_assoc, length-append, get_or-set_other, get_or-set_same, add-one}
use Rattle.std.proofs.lemmas.Bool.{cases_lt}
use Rattle.std.proofs.lemmas.Nat.{pow_pos}
use Rattle.std.proofs.Math.Pow.{pow_mono}
use Rattle.std.proofs.lemmas.List.{append-nil}
use Rattle.std.proofs.Math.Seq.{take-append_seam, drop-append_seam}
use Rattle.x509_merkle.specs.Merkle.{Octets, leaf_hash, node_hash, hash_at, tree_hash}
use Rattle.x509_merkle.specs.Trees.{Stands, none, even, odd, joined_hash}
use Rattle.x509_merkle.proofs.Halves.{doubled, length_zero}
use Rattle.x509_merkle.proofs.Splits.{hash_at_any, hash_at_split}

le_times : (c n : ℕ) → 0 < c → n ≤ c * n
le_times zero n some = absurd (omega arith)
le_times (suc c) n some = omega arith

-- a subtree's level, where its leaves are counted by 64 bits
pub level_fits : (count level : ℕ) → 0 < count → count * 2 ^ level < 2 ^ 64 → level < 64
level_fits count level some few = elim (cases_lt level 64) [
  | inl low ↦ low
  | inr high ↦
      let big : 2 ^ 64 ≤ 2 ^ level = pow_mono {i = 64} {j = level} high in
      let more : 2 ^ level ≤ count * 2 ^ level = le_times count (2 ^ level) some in
      absurd (omega arith)
]

-- one level up, the count of subtrees is half of it
pub half_counted : (count level size : ℕ) → count % 2 ≡ 1 → (count + 1) * 2 ^ level ≡ size → (count / 2 + 1) * 2 ^ (level + 1) ≡ size
half_counted count level size is_odd e =
    let q : count ≡ 2 * (count / 2) + 1 = omega arith in
    rw (add-one level) (omega (arith, ap (λ k. k * 2 ^ level) q, ap (λ k. (count / 2 + 1) * k) (doubled level), e))

pub half_within : (count level size : ℕ) → count * 2 ^ level ≤ size → count / 2 * 2 ^ (level + 1) ≤ size
half_within count level size few =
    let q : count ≡ 2 * (count / 2) + count % 2 = omega arith in
    rw (add-one level) (omega (arith, ap (λ k. k * 2 ^ level) q, ap (λ k. count / 2 * k) (doubled level), few))

module _ (hash : Octets → Octets) where
  pub record Odd (hashes : List Octets) (level count : ℕ) (leaves : List Octets) : Type 0 where
    pub before : List Octets
    pub last : List Octets
    pub parts : leaves ≡ before ++ last
    pub size : length last ≡ 2 ^ level
    pub here : get_or hashes level [] ≡ hash_at hash level last
    pub above : Stands hash hashes (suc level) (count / 2) before

  pub odd_view : (hashes : List Octets) (level count : ℕ) (leaves : List Octets) → Stands hash hashes level count leaves → count % 2 ≡ 1 → Odd hashes level count leaves
  odd_view hashes level count leaves (none z e) h = absurd (omega arith)
  odd_view hashes level count leaves (even half e s) h = absurd (omega arith)
  odd_view hashes level count leaves (odd half before last e parts size here s) h =
      let same : half ≡ count / 2 = omega arith in
      record { before = before; last = last; parts = parts; size = size; here = here; above = subst (λ k. Stands hash hashes (suc level) k before) same s }

  pub even_view : (hashes : List Octets) (level count : ℕ) (leaves : List Octets) → Stands hash hashes level count leaves → (count % 2 ≡ 1 → ⊥)
      → Stands hash hashes (suc level) (count / 2) leaves
  even_view hashes level count leaves (none z e) h = none (omega arith) e
  even_view hashes level count leaves (even half e s) h =
      let same : half ≡ count / 2 = omega arith in
      subst (λ k. Stands hash hashes (suc level) k leaves) same s
  even_view hashes level count leaves (odd half before last e parts size here s) h = absurd (h (omega arith))

  -- what stands above isn't touched
  pub Stands-set : (hashes : List Octets) (k : ℕ) (h : Octets) (level count : ℕ) (leaves : List Octets) → Stands hash hashes level count leaves → k < level
      → Stands hash (set hashes k h) level count leaves
  Stands-set hashes k h level count leaves (none z e) below = none z e
  Stands-set hashes k h level count leaves (even half e s) below = even half e (Stands-set hashes k h (suc level) half leaves s (omega arith))
  Stands-set hashes k h level count leaves (odd half before last e parts size here s) below =
      let other : level ≢ k = omega arith in
      odd half before last e parts size (rw get_or-set_other here) (Stands-set hashes k h (suc level) half before s (omega arith))

  pub Stands-length : (hashes : List Octets) (level count : ℕ) (leaves : List Octets) → Stands hash hashes level count leaves → length leaves ≡ count * 2 ^ level
  Stands-length hashes level count leaves (none z e) = rw (z, e) (omega arith)
  Stands-length hashes level count leaves (even half e s) =
      let above = Stands-length hashes (suc level) half leaves s in
      rw e (omega (arith, ap (λ k. half * k) (doubled level)))
  Stands-length hashes level count leaves (odd half before last e parts size here s) =
      let above = Stands-length hashes (suc level) half before s in
      rw (e, parts) (omega (arith, ap (λ k. half * k) (doubled level), length-append before last))

  pub Stands-none : (hashes : List Octets) (level count : ℕ) (leaves : List Octets) → Stands hash hashes level count leaves → count ≤ 0 → leaves ≡ []
  Stands-none hashes level count leaves s few = length_zero leaves (Stands-length hashes level count leaves s ∙ (let z : count ≡ 0 = omega arith in rw z (omega arith)))

  -- seen from below, where there are no smaller subtrees
  pub Stands-below : (hashes : List Octets) (level count : ℕ) (leaves : List Octets) → Stands hash hashes level count leaves
      → Stands hash hashes 0 (count * 2 ^ level) leaves
  Stands-below hashes zero count leaves s = let e : count * 2 ^ 0 ≡ count = omega arith in rw e s
  Stands-below hashes (suc level) count leaves s =
      let e : count * 2 ^ suc level ≡ 2 * count * 2 ^ level = omega (arith, ap (λ k. count * k) (doubled level)) in
      rw e (Stands-below hashes level (2 * count) leaves (even count refl s))

  -- the tree of a full subtree and of what follows it
  pub hash_joined : (level : ℕ) (left right : List Octets) → length left ≡ 2 ^ level → 0 < length right → length right ≤ 2 ^ level
      → hash_at hash (suc level) (left ++ right) ≡ node_hash hash (hash_at hash level left) (hash_at hash level right)
  hash_joined level left right full some few =
      let long : 2 ^ level < length (left ++ right) = omega (arith, length-append left right) in
      let front : take (2 ^ level) (left ++ right) ≡ left = ap (λ k. take k (left ++ right)) (sym full) ∙ take-append_seam left right in
      let back : drop (2 ^ level) (left ++ right) ≡ right = ap (λ k. drop k (left ++ right)) (sym full) ∙ drop-append_seam left right in
      rw (hash_at_split hash level (left ++ right) long, front, back) refl

  -- ---- one more leaf

  -- the leaves with the new one: full subtrees of that level and above, and one more of that level, with its hash
  pub record Pending (hashes : List Octets) (level count : ℕ) (leaves : List Octets) (h : Octets) : Type 0 where
    pub before : List Octets
    pub last : List Octets
    pub parts : leaves ≡ before ++ last
    pub size : length last ≡ 2 ^ level
    pub here : h ≡ hash_at hash level last
    pub above : Stands hash hashes level count before

  pub Pending-first : (hashes : List Octets) (count : ℕ) (leaves : List Octets) (entry h : Octets) → Stands hash hashes 0 count leaves → h ≡ leaf_hash hash entry
      → Pending hashes 0 count (leaves ++ entry ∷ []) h
  unfolding hash_at
  Pending-first hashes count leaves entry h s e = record { before = leaves; last = entry ∷ []; parts = refl; size = refl; here = e; above = s }

  pub Pending-up : (hashes : List Octets) (level count : ℕ) (leaves : List Octets) (h : Octets) → Pending hashes level count leaves h → count % 2 ≡ 1
      → Pending hashes (suc level) (count / 2) leaves (node_hash hash (get_or hashes level []) h)
  Pending-up hashes level count leaves h p is_odd =
      let o = odd_view hashes level count p.before p.above is_odd in
      record {
        before = o.before;
        last = o.last ++ p.last;
        parts = p.parts ∙ ap (λ ys. ys ++ p.last) o.parts ∙ append_assoc o.before o.last p.last;
        size = omega (arith, length-append o.last p.last, o.size, p.size, doubled level);
        here = rw (o.here, p.here) (sym (hash_joined level o.last p.last o.size (omega (arith, p.size, pow_pos level)) (omega (arith, p.size))));
        above = o.above;
      }

  pub Pending-set : (hashes : List Octets) (level count size : ℕ) (leaves : List Octets) (h : Octets) → (count + 1) * 2 ^ level ≡ size → Pending hashes level count leaves h → (count % 2 ≡ 1 → ⊥)
      → level < length hashes → Stands hash (set hashes level h) 0 size leaves
  Pending-set hashes level count size leaves h counted p is_even inside =
      rw (← counted) (Stands-below (set hashes level h) level (count + 1) leaves
      (odd (count / 2) p.before p.last (omega arith) p.parts p.size (rw get_or-set_same p.here)
      (Stands-set hashes level h (suc level) (count / 2) p.before (even_view hashes level count p.before p.above is_even) (omega arith))))

  -- ---- the root

  -- the hash of so many leaves, or none where there are none
  pub data IsHash (level : ℕ) (leaves : List Octets) : Option Octets → Type 0 where
    no_leaf : leaves ≡ [] → IsHash level leaves None
    some_leaf : {h : Octets} → h ≡ tree_hash hash leaves → 0 < length leaves → length leaves ≤ 2 ^ level → IsHash level leaves (Some h)

  -- full subtrees of that level and above, and the hash of the leaves that follow
  pub record Rooted (hashes : List Octets) (level count : ℕ) (leaves : List Octets) (root : Option Octets) : Type 0 where
    pub before : List Octets
    pub last : List Octets
    pub parts : leaves ≡ before ++ last
    pub here : IsHash level last root
    pub above : Stands hash hashes level count before

  pub Rooted-first : (hashes : List Octets) (count : ℕ) (leaves : List Octets) → Stands hash hashes 0 count leaves → Rooted hashes 0 count leaves None
  Rooted-first hashes count leaves s = record { before = leaves; last = []; parts = sym (append-nil leaves); here = no_leaf refl; above = s }

  IsHash-up : (level : ℕ) (leaves : List Octets) (root : Option Octets) → IsHash level leaves root → IsHash (suc level) leaves root
  IsHash-up level leaves None (no_leaf e) = no_leaf e
  IsHash-up level leaves (Some h) (some_leaf e some few) = some_leaf e some (omega (arith, doubled level))

  pub Rooted-even : (hashes : List Octets) (level count : ℕ) (leaves : List Octets) (root : Option Octets) → Rooted hashes level count leaves root → (count % 2 ≡ 1 → ⊥)
      → Rooted hashes (suc level) (count / 2) leaves root
  Rooted-even hashes level count leaves root r is_even =
      record { before = r.before; last = r.last; parts = r.parts; here = IsHash-up level r.last root r.here; above = even_view hashes level count r.before r.above is_even }

  IsHash-joined : (level : ℕ) (left right : List Octets) (root : Option Octets) → length left ≡ 2 ^ level → IsHash level right root
      → IsHash (suc level) (left ++ right) (Some (joined_hash hash (hash_at hash level left) root))
  IsHash-joined level left right None full (no_leaf e) =
      let alone : left ++ right ≡ left = ap (λ ys. left ++ ys) e ∙ append-nil left in
      rw alone (some_leaf (hash_at_any hash level left (omega arith)) (omega (arith, pow_pos level)) (omega (arith, doubled level)))
  IsHash-joined level left right (Some h) full (some_leaf e some few) =
      let both = length-append left right in
      some_leaf
      (rw (e, ← hash_at_any hash level right few, ← hash_at_any hash (suc level) (left ++ right) (omega (arith, doubled level))) (sym (hash_joined level left right full some few)))
      (omega arith) (omega (arith, doubled level))

  pub Rooted-odd : (hashes : List Octets) (level count : ℕ) (leaves : List Octets) (root : Option Octets) → Rooted hashes level count leaves root → count % 2 ≡ 1
      → Rooted hashes (suc level) (count / 2) leaves (Some (joined_hash hash (get_or hashes level []) root))
  Rooted-odd hashes level count leaves root r is_odd =
      let o = odd_view hashes level count r.before r.above is_odd in
      record {
        before = o.before;
        last = o.last ++ r.last;
        parts = r.parts ∙ ap (λ ys. ys ++ r.last) o.parts ∙ append_assoc o.before o.last r.last;
        here = rw o.here (IsHash-joined level o.last r.last root o.size r.here);
        above = o.above;
      }

  without_leaf : (level : ℕ) (leaves : List Octets) → IsHash level leaves None → leaves ≡ []
  without_leaf level leaves (no_leaf e) = e

  with_leaf : (level : ℕ) (leaves : List Octets) (h : Octets) → IsHash level leaves (Some h) → h ≡ tree_hash hash leaves
  with_leaf level leaves h (some_leaf e some few) = e

  only_last : (hashes : List Octets) (level count : ℕ) (leaves : List Octets) (root : Option Octets) (r : Rooted hashes level count leaves root) → count ≤ 0 → leaves ≡ r.last
  only_last hashes level count leaves root r few = r.parts ∙ ap (λ ys. ys ++ r.last) (Stands-none hashes level count r.before r.above few)

  pub root_of_none : (hashes : List Octets) (level count : ℕ) (leaves : List Octets) → Rooted hashes level count leaves None → count ≤ 0 → hash [] ≡ tree_hash hash leaves
  unfolding tree_hash hash_at
  root_of_none hashes level count leaves r few = rw (only_last hashes level count leaves None r few ∙ without_leaf level r.last r.here) refl

  pub root_of_some : (hashes : List Octets) (level count : ℕ) (leaves : List Octets) (h : Octets) → Rooted hashes level count leaves (Some h) → count ≤ 0 → h ≡ tree_hash hash leaves
  root_of_some hashes level count leaves h r few = with_leaf level r.last h r.here ∙ ap (tree_hash hash) (sym (only_last hashes level count leaves (Some h) r few))
