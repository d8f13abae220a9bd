-- What is left of the valid policy tree at the end, by its leaves (RFC 5280 6.1.5 (g)).
use Rattle.std.proofs.Common.{◌≡◌, ◌∙◌, ℕ, zero, suc, Bool, true, false, not, ◌&&◌, ◌||◌, cond, if◌then◌else◌, List, [], ◌∷◌, ◌++◌, filter, refl, sym, ap, subst}
use Rattle.std.specs.List.{list_any}
use Rattle.std.specs.Str.{bytes_eq}
use Rattle.std.proofs.lemmas.List.Folds.{list_any-append}
use Rattle.std.proofs.lemmas.List.Elements.{filter-append}
use Rattle.std.proofs.lemmas.Slice.Eq.{bytes_eq-Decides}
use Rattle.x509_policy.specs.Values.{Policy, any_policy, is_any, has}
use Rattle.x509_policy.specs.Tree.{Nodes, none, node, is_null, with_child, pruned, valid_policy_node_set, within, children_for}
use Rattle.x509_policy.specs.Leaves.{Leaf, first_of_way, leaves, is_empty, some_begins_with}
use Rattle.x509_policy.proofs.Leaves.{way_of_any, way_of_other, begins_below, is_null-pruned}

-- ---- tests of policies

pub is_any-same : (p : Policy) → is_any p ≡ true → p ≡ any_policy
unfolding is_any
is_any-same p h = (bytes_eq-Decides p any_policy).0 h

pub is_any-any : is_any any_policy ≡ true
unfolding is_any
is_any-any = refl

pub has-append : (xs ys : List Policy) (p : Policy) → has (xs ++ ys) p ≡ (has xs p || has ys p)
unfolding has
has-append xs ys p = list_any-append (λ q. bytes_eq q p) xs ys

pub has-cons : (q : Policy) (xs : List Policy) (p : Policy) → has (q ∷ xs) p ≡ (has (q ∷ []) p || has xs p)
unfolding has
has-cons q xs p = or (bytes_eq q p) (list_any (λ q. bytes_eq q p) xs)
  where
    or : (a b : Bool) → (a || b) ≡ ((a || false) || b)
    or true b = refl
    or false b = refl

pub has-nil : (p : Policy) → has [] p ≡ false
unfolding has
has-nil p = refl

one_or : (b : Bool) → (b || false) ≡ true → b ≡ true
one_or true h = refl
one_or false h = h

pub has_one : (q p : Policy) → has (q ∷ []) p ≡ true → q ≡ p
unfolding has
has_one q p h = (bytes_eq-Decides q p).0 (one_or (bytes_eq q p) h)

pub has_itself : (p : Policy) → has (p ∷ []) p ≡ true
unfolding has
has_itself p = ap (λ b. b || false) ((bytes_eq-Decides p p).1 refl)

false_unless : (b : Bool) → (b ≡ true → ⊥) → b ≡ false
false_unless true h = absurd (h refl)
false_unless false h = refl

pub differs : (v p : Policy) → is_any v ≡ true → is_any p ≡ false → has (v ∷ []) p ≡ false
differs v p h k = false_unless (has (v ∷ []) p) (λ same. let e = has_one v p same in let k' = subst (λ q. is_any q ≡ false) (sym e) k in cc)

-- ---- 1: the valid policy node set

pub none_below : (depth : ℕ) (above : Policy) (c : Nodes) → is_null (pruned depth c) ≡ true → is_empty (leaves depth above c) ≡ true
none_below depth above c h = sym (is_null-pruned depth above c) ∙ h

some_of_none : (p : Policy) (ls : List Leaf) → is_empty ls ≡ true → some_begins_with p ls ≡ false
some_of_none p [] h = refl
some_of_none p (l ∷ ls) h = cc

if_of : {X : Type 0} (b : Bool) (x y : X) → b ≡ true → cond b x y ≡ x
if_of b x y h = ap (λ c. cond c x y) h

if_not : {X : Type 0} (b : Bool) (x y : X) → b ≡ false → cond b x y ≡ y
if_not b x y h = ap (λ c. cond c x y) h

-- one node of a forest under any-policy: what it adds to the set
module _ (p : Policy) (other : is_any p ≡ false) where
  set_of_node : (v : Policy) (e : List Policy) (depth : ℕ) (ls : List Leaf) (begins : Bool) (c s : Nodes) (rest : Bool) (b : Bool) → is_any v ≡ b
      → (is_empty ls ≡ true → begins ≡ false)
      → is_null c ≡ is_empty ls
      → (is_any v ≡ true → has (valid_policy_node_set depth c) p ≡ begins)
      → (is_any v ≡ false → begins ≡ (has (v ∷ []) p && not (is_empty ls)))
      → has (valid_policy_node_set (suc depth) s) p ≡ rest
      → has (valid_policy_node_set (suc depth) (with_child v e c s)) p ≡ (begins || rest)
  set_of_node v e depth ls begins none s rest b is none_begin empty inside outside more = let f : begins ≡ false = none_begin (sym empty) in rw f more
  set_of_node v e depth ls begins (node w x d t) s rest true is none_begin empty inside outside more =
      let set = node w x d t in
      let whole : (if is_any v then valid_policy_node_set depth set else []) ≡ valid_policy_node_set depth set = if_of (is_any v) (valid_policy_node_set depth set) [] is in
      let one = has-cons v ((if is_any v then valid_policy_node_set depth set else []) ++ valid_policy_node_set (suc depth) s) p in
      let two = has-append (if is_any v then valid_policy_node_set depth set else []) (valid_policy_node_set (suc depth) s) p in
      let three : has (if is_any v then valid_policy_node_set depth set else []) p ≡ begins = ap (λ l. has l p) whole ∙ inside is in
      let four = differs v p is other in
      one ∙ (ap (λ b. b || has ((if is_any v then valid_policy_node_set depth set else []) ++ valid_policy_node_set (suc depth) s) p) four ∙ (two ∙ (ap (λ b. b || has (valid_policy_node_set (suc depth) s) p) three ∙ ap (λ b. begins || b) more)))
  set_of_node v e depth ls begins (node w x d t) s rest false is none_begin empty inside outside more =
      let set = node w x d t in
      let whole : (if is_any v then valid_policy_node_set depth set else []) ≡ [] = if_not (is_any v) (valid_policy_node_set depth set) [] is in
      let one = has-cons v ((if is_any v then valid_policy_node_set depth set else []) ++ valid_policy_node_set (suc depth) s) p in
      let two = ap (λ (l : List Policy). has (l ++ valid_policy_node_set (suc depth) s) p) whole in
      let begin : begins ≡ (has (v ∷ []) p && true) = outside is ∙ ap (λ b. has (v ∷ []) p && not b) (sym empty) in
      one ∙ (ap (λ b. has (v ∷ []) p || b) (two ∙ more) ∙ ap (λ b. b || rest) (and_true (has (v ∷ []) p) ∙ sym begin))
    where
      and_true : (b : Bool) → b ≡ (b && true)
      and_true true = refl
      and_true false = refl

  pub node_set-leaves : (depth : ℕ) (above : Policy) → is_any above ≡ true → (tree : Nodes)
      → has (valid_policy_node_set depth (pruned depth tree)) p ≡ some_begins_with p (leaves depth above tree)
  node_set-leaves depth above is none = has-nil p
  node_set-leaves zero above is (node v e c s) =
      let same = way_of_any above v is in
      rw same (has-cons v (valid_policy_node_set zero s) p ∙ ap (λ b. has (v ∷ []) p || b) (zero_depth s))
    where
      zero_depth : (s : Nodes) → has (valid_policy_node_set zero s) p ≡ some_begins_with p (leaves zero above s)
      zero_depth none = has-nil p
      zero_depth (node v e c s) =
          let same = way_of_any above v is in
          rw same (has-cons v (valid_policy_node_set zero s) p ∙ ap (λ b. has (v ∷ []) p || b) (zero_depth s))
  node_set-leaves (suc depth) above is (node v e c s) =
      let same = way_of_any above v is in
      let both = list_any-append (λ (l : Leaf). has (l.first ∷ []) p) (leaves depth v c) (leaves (suc depth) above s) in
      rw same (set_of_node v e depth (leaves depth v c) (some_begins_with p (leaves depth v c)) (pruned depth c) (pruned (suc depth) s) (some_begins_with p (leaves (suc depth) above s)) (is_any v) refl
      (some_of_none p (leaves depth v c)) (is_null-pruned depth v c) (λ any. node_set-leaves depth v any c) (λ no. begins_below p v no depth c) (node_set-leaves (suc depth) above is s) ∙ sym both)

-- ---- 2: what the user's set leaves

abbrev pub keeps : List Policy → Leaf → Bool
keeps user l = is_any l.first || has user l.first

kept_all : (user : List Policy) (above : Policy) → is_any above ≡ false → has user above ≡ true → (depth : ℕ) (tree : Nodes)
    → filter (keeps user) (leaves depth above tree) ≡ leaves depth above tree
kept_all user above other is depth none = refl
kept_all user above other is zero (node v e c s) =
    let same = way_of_other above v other in
    let test : (is_any above || has user above) ≡ true = either (is_any above) (has user above) is in
    let rest = kept_all user above other is zero s in
    rw same (if_of (is_any above || has user above) _ _ test ∙ ap (λ ls. record { first = above; valid = v; expected = e } ∷ ls) rest)
  where
    either : (a b : Bool) → b ≡ true → (a || b) ≡ true
    either true b h = refl
    either false b h = h
kept_all user above other is (suc depth) (node v e c s) =
    let same = way_of_other above v other in
    let one = kept_all user above other is depth c in
    let two = kept_all user above other is (suc depth) s in
    let both = filter-append (keeps user) (leaves depth above c) (leaves (suc depth) above s) in
    rw same (cc)

kept_none : (user : List Policy) (above : Policy) → is_any above ≡ false → has user above ≡ false → (depth : ℕ) (tree : Nodes)
    → filter (keeps user) (leaves depth above tree) ≡ []
kept_none user above other is depth none = refl
kept_none user above other is zero (node v e c s) =
    let same = way_of_other above v other in
    let test : (is_any above || has user above) ≡ false = neither (is_any above) (has user above) other is in
    let rest = kept_none user above other is zero s in
    rw same (if_not (is_any above || has user above) _ _ test ∙ rest)
  where
    neither : (a b : Bool) → a ≡ false → b ≡ false → (a || b) ≡ false
    neither true b g h = g
    neither false b g h = h
kept_none user above other is (suc depth) (node v e c s) =
    let same = way_of_other above v other in
    let one = kept_none user above other is depth c in
    let two = kept_none user above other is (suc depth) s in
    let both = filter-append (keeps user) (leaves depth above c) (leaves (suc depth) above s) in
    rw same (both ∙ (ap (λ ls. ls ++ filter (keeps user) (leaves (suc depth) above s)) one ∙ two))

-- a node and its siblings, by whether its policy is any-policy and whether it is in the user's set
abbrev choice : (user : List Policy) (v : Policy) (e : List Policy) (c inside siblings : Nodes) → Bool → Bool → Nodes
choice user v e c inside siblings any some = cond any (node v e inside siblings) (cond some (node v e c siblings) siblings)

module _ (user : List Policy) (above : Policy) (is : is_any above ≡ true) where
  zero_case : (v : Policy) (e : List Policy) (c inside s : Nodes) (any some : Bool) (ls : List Leaf) → any ≡ is_any v → some ≡ has user v
      → leaves zero above s ≡ filter (keeps user) ls
      → leaves zero above (choice user v e c inside s any some) ≡ filter (keeps user) (record { first = first_of_way above v; valid = v; expected = e } ∷ ls)
  zero_case v e c inside s true some ls a b h =
      let same = way_of_any above v is in
      let test : (is_any v || has user v) ≡ true = ap (λ t. t || has user v) (sym a) in
      rw same (ap (λ l. record { first = v; valid = v; expected = e } ∷ l) h ∙ sym (if_of (is_any v || has user v) _ _ test))
  zero_case v e c inside s false true ls a b h =
      let same = way_of_any above v is in
      let test : (is_any v || has user v) ≡ true = ap (λ t. t || has user v) (sym a) ∙ sym b in
      rw same (ap (λ l. record { first = v; valid = v; expected = e } ∷ l) h ∙ sym (if_of (is_any v || has user v) _ _ test))
  zero_case v e c inside s false false ls a b h =
      let same = way_of_any above v is in
      let test : (is_any v || has user v) ≡ false = ap (λ t. t || has user v) (sym a) ∙ sym b in
      rw same (h ∙ sym (if_not (is_any v || has user v) _ _ test))

  more_case : (v : Policy) (e : List Policy) (depth : ℕ) (c inside s : Nodes) (any some : Bool) (ls : List Leaf) → any ≡ is_any v → some ≡ has user v
      → (is_any v ≡ true → leaves depth v inside ≡ filter (keeps user) (leaves depth v c))
      → leaves (suc depth) above s ≡ filter (keeps user) ls
      → leaves (suc depth) above (choice user v e c inside s any some) ≡ filter (keeps user) (leaves depth (first_of_way above v) c ++ ls)
  more_case v e depth c inside s true some ls a b deep h =
      let same = way_of_any above v is in
      let both = filter-append (keeps user) (leaves depth v c) ls in
      let d = deep (sym a) in
      rw same (cc)
  more_case v e depth c inside s false true ls a b deep h =
      let same = way_of_any above v is in
      let both = filter-append (keeps user) (leaves depth v c) ls in
      let all = kept_all user v (sym a) (sym b) depth c in
      rw same (cc)
  more_case v e depth c inside s false false ls a b deep h =
      let same = way_of_any above v is in
      let both = filter-append (keeps user) (leaves depth v c) ls in
      let all = kept_none user v (sym a) (sym b) depth c in
      rw same (h ∙ sym (both ∙ ap (λ l. l ++ filter (keeps user) ls) all))

pub leaves-within : (user : List Policy) (depth : ℕ) (above : Policy) → is_any above ≡ true → (tree : Nodes)
    → leaves depth above (within user tree) ≡ filter (keeps user) (leaves depth above tree)
leaves-within user depth above is none = refl
leaves-within user zero above is (node v e c s) =
    zero_case user above is v e c (within user c) (within user s) (is_any v) (has user v) (leaves zero above s) refl refl (leaves-within user zero above is s)
leaves-within user (suc depth) above is (node v e c s) =
    more_case user above is v e depth c (within user c) (within user s) (is_any v) (has user v) (leaves (suc depth) above s) refl refl (λ any. leaves-within user depth v any c) (leaves-within user (suc depth) above is s)

-- ---- 3: in place of any-policy

pub leaves-children_for : (new : List Policy) (above : Policy) (s : Nodes) → leaves 0 above (children_for new s) ≡ leaves 0 above (children_for new none) ++ leaves 0 above s
leaves-children_for [] above s = refl
leaves-children_for (p ∷ new) above s = ap (λ ls. record { first = first_of_way above p; valid = p; expected = p ∷ [] } ∷ ls) (leaves-children_for new above s)

-- what stands in place of a leaf
abbrev pub stands_in : List Policy → Leaf → List Leaf
stands_in new l = if is_any l.valid then leaves 0 l.first (children_for new none) else l ∷ []
