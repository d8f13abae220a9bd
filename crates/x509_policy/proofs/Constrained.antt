-- The user-constrained policy set, by the leaves of the tree (RFC 5280 6.1.5 (g)).
use Rattle.std.proofs.Common.{◌≡◌, ◌∙◌, ◌↔◌, ◌⊎◌, inl, inr, ℕ, Bool, true, false, not, cond, List, [], ◌∷◌, ◌++◌, filter, refl, sym, ap, subst}
use Rattle.std.specs.List.{flat_map}
use Rattle.x509_policy.specs.Values.{Policy, any_policy, is_any, has}
use Rattle.x509_policy.specs.Tree.{Nodes, none, node, is_null, has_node, pruned, replaced, valid_policy_node_set, within, children_for, in_place_of_any}
use Rattle.x509_policy.specs.Path.{policies_of}
use Rattle.x509_policy.specs.Leaves.{Leaf, first_of_way, leaves, is_empty, some_has_policy, some_begins_with}
use Rattle.x509_policy.specs.Levels.{In}
use Rattle.x509_policy.proofs.Leaves.{way_of_any, Replaces, leaves-replaced, leaves-pruned, is_null-pruned, has_node-leaves}
use Rattle.x509_policy.proofs.Ends.{is_any-any, is_any-same, has_one, has_itself, node_set-leaves, keeps, leaves-within, leaves-children_for, stands_in}
use Rattle.x509_policy.proofs.Members.{In-left, In-right, In-cases, In-flat_map, flat_map-In, In-filter, filter-In, any_In, In_any, has-In, In-has, not_both, any_is, other_is, is_other, made, or_cases, or_left, or_right}
use Rattle.x509_policy.proofs.Mappings.{way_through_any}

-- some leaf begins with that policy
abbrev pub Led : List Leaf → Policy → Type 0
Led ls p = (l : Leaf) × In l ls × (l.first ≡ p)

abbrev pub AnyFirst : List Leaf → Type 0
AnyFirst ls = (l : Leaf) → In l ls → (l.first ≡ any_policy) ↔ (l.valid ≡ any_policy)

led-begins : (ls : List Leaf) (p : Policy) → Led ls p → some_begins_with p ls ≡ true
led-begins ls p (l, is, same) = In_any (λ (k : Leaf). has (k.first ∷ []) p) l ls is (subst (λ q. has (l.first ∷ []) q ≡ true) same (has_itself l.first))

begins-led : (ls : List Leaf) (p : Policy) → some_begins_with p ls ≡ true → Led ls p
begins-led ls p h = let (l, is, t) = any_In (λ (k : Leaf). has (k.first ∷ []) p) ls h in (l, is, has_one l.first p t)

-- ---- the policies of a tree that is pruned

In-any_cond : (p : Policy) (b : Bool) → In p (cond b (any_policy ∷ []) []) → (any_policy ≡ p) × (b ≡ true)
In-any_cond p true (inl e) = (e, refl)
In-any_cond p true (inr h) = absurd h
In-any_cond p false h = absurd h

any_cond-In : (b : Bool) → b ≡ true → In any_policy (cond b (any_policy ∷ []) [])
any_cond-In true h = inl refl
any_cond-In false h = absurd (not_both false h refl)

not_true : (b : Bool) → not b ≡ true → b ≡ false
not_true true h = sym h
not_true false h = refl

true_not : (b : Bool) → b ≡ false → not b ≡ true
true_not true h = sym h
true_not false h = refl

module _ (depth : ℕ) (tree : Nodes) (firsts : AnyFirst (leaves depth any_policy tree)) where
  abbrev Ls : List Leaf
  Ls = leaves depth any_policy tree

  abbrev Pruned : Nodes
  Pruned = pruned depth tree

  in_set : (p : Policy) → is_any p ≡ false → has (valid_policy_node_set depth Pruned) p ≡ some_begins_with p Ls
  in_set p other = node_set-leaves p other depth any_policy is_any-any tree

  any_node : has_node depth any_policy Pruned ≡ some_has_policy any_policy Ls
  any_node = has_node-leaves any_policy depth any_policy Pruned ∙ ap (some_has_policy any_policy) (leaves-pruned depth any_policy tree)

  pub policies-led : (p : Policy) → In p (policies_of depth Pruned) → Led Ls p
  policies-led p h =
      let Set = valid_policy_node_set depth Pruned in
      elim (In-cases p (filter (λ q. not (is_any q)) Set) (cond (has_node depth any_policy Pruned) (any_policy ∷ []) []) h) [
        | inl kept ↦
            let (is, other) = In-filter (λ q. not (is_any q)) p Set kept in
            begins-led Ls p (sym (in_set p (not_true (is_any p) other)) ∙ In-has p Set is)
        | inr last ↦
            let (same, there) = In-any_cond p (has_node depth any_policy Pruned) last in
            let (l, is, t) = any_In (λ (k : Leaf). has (k.valid ∷ []) any_policy) Ls (sym any_node ∙ there) in
            (l, is, (firsts l is).1 (has_one l.valid any_policy t) ∙ same)
      ]

  led_other : (p : Policy) → is_any p ≡ false → Led Ls p → In p (policies_of depth Pruned)
  led_other p other led =
      let Set = valid_policy_node_set depth Pruned in
      In-left p (filter (λ q. not (is_any q)) Set) (cond (has_node depth any_policy Pruned) (any_policy ∷ []) [])
      (filter-In (λ q. not (is_any q)) p Set (has-In p Set (in_set p other ∙ led-begins Ls p led)) (true_not (is_any p) other))

  led_any : Led Ls any_policy → In any_policy (policies_of depth Pruned)
  led_any (l, is, first) =
      let Set = valid_policy_node_set depth Pruned in
      let t : has (l.valid ∷ []) any_policy ≡ true = subst (λ q. has (l.valid ∷ []) q ≡ true) ((firsts l is).0 first) (has_itself l.valid) in
      In-right any_policy (filter (λ q. not (is_any q)) Set) (cond (has_node depth any_policy Pruned) (any_policy ∷ []) [])
      (any_cond-In (has_node depth any_policy Pruned) (any_node ∙ In_any (λ (k : Leaf). has (k.valid ∷ []) any_policy) l Ls is t))

  by_kind : (p : Policy) (b : Bool) → is_any p ≡ b → Led Ls p → In p (policies_of depth Pruned)
  by_kind p true is led = let same = is_any-same p is in subst (λ q. In q (policies_of depth Pruned)) (sym same) (led_any (subst (Led Ls) same led))
  by_kind p false other led = led_other p other led

  pub led-policies : (p : Policy) → Led Ls p → In p (policies_of depth Pruned)
  led-policies p led = by_kind p (is_any p) refl led

  pub null-led : is_null Pruned ≡ true → (p : Policy) → Led Ls p → ⊥
  null-led h p (l, is, first) = some_leaf Ls l is (sym (is_null-pruned depth any_policy tree) ∙ h)
    where
      some_leaf : (ls : List Leaf) (l : Leaf) → In l ls → is_empty ls ≡ true → ⊥
      some_leaf [] l is h = is
      some_leaf (k ∷ ls) l is h = not_both false h refl

  pub led-null : ((p : Policy) → Led Ls p → ⊥) → is_null Pruned ≡ true
  led-null nobody = is_null-pruned depth any_policy tree ∙ none_leaf Ls nobody
    where
      none_leaf : (ls : List Leaf) → ((p : Policy) → Led ls p → ⊥) → is_empty ls ≡ true
      none_leaf [] nobody = refl
      none_leaf (l ∷ ls) nobody = absurd (nobody l.first (l, inl refl, refl))

-- ---- where the caller asks for some

same_children : (above v : Policy) → is_any v ≡ true → (new : List Policy) → leaves 0 (first_of_way above v) (children_for new none) ≡ leaves 0 above (children_for new none)
same_children above v is [] = refl
same_children above v is (p ∷ new) =
    ap (λ q. record { first = q; valid = p; expected = p ∷ [] } ∷ leaves 0 (first_of_way above v) (children_for new none)) (way_through_any above v p (is_any above) refl is)
    ∙ ap (λ ls. record { first = first_of_way above p; valid = p; expected = p ∷ [] } ∷ ls) (same_children above v is new)

place-case : (new : List Policy) (above v : Policy) (e : List Policy) (s : Nodes) (b : Bool) → is_any v ≡ b
    → leaves 0 above (cond b (children_for new s) (node v e none s))
    ≡ cond b (leaves 0 (first_of_way above v) (children_for new none)) (record { first = first_of_way above v; valid = v; expected = e } ∷ []) ++ leaves 0 above s
place-case new above v e s true is = leaves-children_for new above s ∙ ap (λ ls. ls ++ leaves 0 above s) (sym (same_children above v is new))
place-case new above v e s false other = refl

place-replaces : (new : List Policy) → Replaces (in_place_of_any new) (stands_in new)
place-replaces new above v e s = place-case new above v e s (is_any v) refl

In-children_for : (f : Policy) (new : List Policy) (l : Leaf) → In l (leaves 0 f (children_for new none)) → (q : Policy) × In q new × (made f q ≡ l)
In-children_for f [] l h = absurd h
In-children_for f (p ∷ new) l (inl e) = (p, inl refl, e)
In-children_for f (p ∷ new) l (inr h) = let (q, is, same) = In-children_for f new l h in (q, inr is, same)

children_for-In : (f : Policy) (new : List Policy) (q : Policy) → In q new → In (made f q) (leaves 0 f (children_for new none))
children_for-In f [] q h = absurd h
children_for-In f (p ∷ new) q (inl e) = inl (ap (made f) e)
children_for-In f (p ∷ new) q (inr h) = inr (children_for-In f new q h)

module _ (user : List Policy) (asks : In any_policy user → ⊥) (depth : ℕ) (tree : Nodes) (firsts : AnyFirst (leaves depth any_policy tree)) where
  abbrev pub Before : List Leaf
  Before = leaves depth any_policy tree

  abbrev pub Whole : Nodes
  Whole = pruned depth tree

  abbrev pub New : List Policy
  New = filter (λ p. not (has (valid_policy_node_set depth (pruned depth tree)) p)) user

  abbrev pub After : List Leaf
  After = flat_map (stands_in New) (filter (keeps user) Before)

  abbrev pub Placed : Nodes
  Placed = replaced depth (in_place_of_any New) (within user Whole)

  pub placed : leaves depth any_policy Placed ≡ After
  placed =
      leaves-replaced (in_place_of_any New) (stands_in New) (place-replaces New) depth any_policy (within user Whole)
      ∙ ap (flat_map (stands_in New)) (leaves-within user depth any_policy is_any-any Whole ∙ ap (filter (keeps user)) (leaves-pruned depth any_policy tree))

  -- a leaf that is left is one of before, not of any-policy, that is asked for; or one that stands in for a leaf of any-policy
  abbrev From : Leaf → Type 0
  From l =
      (In l Before × (l.valid ≡ any_policy → ⊥) × In l.first user)
      ⊎ ((k : Leaf) × In k Before × (k.first ≡ any_policy) × In l.valid user × (l.first ≡ l.valid))

  from_case : (k l : Leaf) → In k Before → keeps user k ≡ true → (b : Bool) → is_any k.valid ≡ b
      → In l (cond b (leaves 0 k.first (children_for New none)) (k ∷ [])) → From l
  from_case k l there kept true any h =
      let (q, is, same) = In-children_for k.first New l h in
      let (asked, free) = In-filter (λ p. not (has (valid_policy_node_set depth Whole) p)) q user is in
      let first = (firsts k there).1 (is_any-same k.valid any) in
      subst From same (inr (k, there, first, asked, way_of_any k.first q (any_is k.first first)))
  from_case k l there kept false other (inl e) =
      let apart = is_other k.valid other in
      subst From e (inl (
        there,
        apart,
        elim (or_cases (is_any k.first) (has user k.first) kept) [
          | inl any ↦ absurd (apart ((firsts k there).0 (is_any-same k.first any)))
          | inr asked ↦ has-In k.first user asked
        ],
      ))
  from_case k l there kept false other (inr h) = absurd h

  from_of : (l : Leaf) → In l After → From l
  from_of l h =
      let (k, is, below) = In-flat_map (stands_in New) l (filter (keeps user) Before) h in
      let (there, kept) = In-filter (keeps user) k Before is in
      from_case k l there kept (is_any k.valid) refl below

  pub after_firsts : AnyFirst After
  after_firsts l h = elim (from_of l h) [
    | inl (there, other, asked) ↦ firsts l there
    | inr (k, there, any, asked, same) ↦ ((λ e. sym same ∙ e), (λ e. same ∙ e))
  ]

  pub after-asked : (p : Policy) → Led After p → In p user × (Led Before p ⊎ Led Before any_policy)
  after-asked p (l, h, first) = elim (from_of l h) [
    | inl (there, other, asked) ↦ (subst (λ q. In q user) first asked, inl (l, there, first))
    | inr (k, there, any, asked, same) ↦ (subst (λ q. In q user) (sym same ∙ first) asked, inr (k, there, any))
  ]

  led_after : (p : Policy) → In p user → Led Before p → Led After p
  led_after p asked (l, there, first) =
      let other : is_any l.valid ≡ false = other_is l.valid (λ e. asks (subst (λ q. In q user) (sym first ∙ (firsts l there).1 e) asked)) in
      let kept = filter-In (keeps user) l Before there (or_right (is_any l.first) (has user l.first) (In-has l.first user (subst (λ q. In q user) (sym first) asked))) in
      let inside : In l (stands_in New l) = subst (λ ks. In l ks) (sym (ap (λ b. cond b (leaves 0 l.first (children_for New none)) (l ∷ [])) other)) (inl refl) in
      (l, flat_map-In (stands_in New) l l (filter (keeps user) Before) kept inside, first)

  any_after : (p : Policy) → In p user → Led Before any_policy → (b : Bool) → has (valid_policy_node_set depth Whole) p ≡ b → Led After p
  any_after p asked led true is =
      let other : is_any p ≡ false = other_is p (λ e. asks (subst (λ q. In q user) e asked)) in
      led_after p asked (begins-led Before p (sym (node_set-leaves p other depth any_policy is_any-any tree) ∙ is))
  any_after p asked (k, there, any) false is =
      let new = filter-In (λ q. not (has (valid_policy_node_set depth Whole) q)) p user asked (true_not (has (valid_policy_node_set depth Whole) p) is) in
      let kept = filter-In (keeps user) k Before there (or_left (is_any k.first) (has user k.first) (any_is k.first any)) in
      let valid = any_is k.valid ((firsts k there).0 any) in
      let inside : In (made k.first p) (stands_in New k) = subst (λ ks. In (made k.first p) ks) (sym (ap (λ b. cond b (leaves 0 k.first (children_for New none)) (k ∷ [])) valid)) (children_for-In k.first New p new) in
      (made k.first p, flat_map-In (stands_in New) (made k.first p) k (filter (keeps user) Before) kept inside, way_of_any k.first p (any_is k.first any))

  pub asked-after : (p : Policy) → In p user → Led Before p ⊎ Led Before any_policy → Led After p
  asked-after p asked (inl led) = led_after p asked led
  asked-after p asked (inr any) = any_after p asked any (has (valid_policy_node_set depth Whole) p) refl
