-- What each step on the tree does to its leaves.
use Rattle.std.proofs.Common.{◌≡◌, ◌∙◌, ℕ, zero, suc, Bool, true, false, not, ◌&&◌, ◌||◌, cond, List, [], ◌∷◌, ◌++◌, refl, sym, ap}
use Rattle.std.specs.List.{flat_map}
use Rattle.std.proofs.lemmas.List.Folds.{list_any-append}
use Rattle.std.proofs.lemmas.List.Concat.{flat_map-append}
use Rattle.x509_policy.specs.Values.{Policy, is_any, has}
use Rattle.x509_policy.specs.Tree.{Nodes, none, node, is_null, has_node, is_expected, with_children, with_child, pruned, replaced}
use Rattle.x509_policy.specs.Leaves.{Leaf, first_of_way, leaves, is_empty, some_has_policy, some_expects, some_begins_with}

or_assoc : (a b c : Bool) → ((a || b) || c) ≡ (a || (b || c))
or_assoc true b c = refl
or_assoc false b c = refl

-- ---- tests

pub has_node-leaves : (p : Policy) (depth : ℕ) (above : Policy) (tree : Nodes) → has_node depth p tree ≡ some_has_policy p (leaves depth above tree)
has_node-leaves p depth above none = refl
has_node-leaves p zero above (node v e c s) = ap (λ b. has (v ∷ []) p || b) (has_node-leaves p zero above s)
has_node-leaves p (suc depth) above (node v e c s) =
    let one = has_node-leaves p depth (first_of_way above v) c in
    let two = has_node-leaves p (suc depth) above s in
    let both = list_any-append (λ (l : Leaf). has (l.valid ∷ []) p) (leaves depth (first_of_way above v) c) (leaves (suc depth) above s) in
    cc

pub is_expected-leaves : (p : Policy) (depth : ℕ) (above : Policy) (tree : Nodes) → is_expected depth p tree ≡ some_expects p (leaves depth above tree)
is_expected-leaves p depth above none = refl
is_expected-leaves p zero above (node v e c s) = ap (λ b. has e p || b) (is_expected-leaves p zero above s)
is_expected-leaves p (suc depth) above (node v e c s) =
    let one = is_expected-leaves p depth (first_of_way above v) c in
    let two = is_expected-leaves p (suc depth) above s in
    let both = list_any-append (λ (l : Leaf). has l.expected p) (leaves depth (first_of_way above v) c) (leaves (suc depth) above s) in
    cc

-- ---- (d)

pub leaves-with_children : (make : Policy → List Policy → Nodes) (depth : ℕ) (above : Policy) (tree : Nodes)
    → leaves (suc depth) above (with_children depth make tree) ≡ flat_map (λ l. leaves 0 l.first (make l.valid l.expected)) (leaves depth above tree)
leaves-with_children make depth above none = refl
leaves-with_children make zero above (node v e c s) = ap (λ ls. leaves 0 (first_of_way above v) (make v e) ++ ls) (leaves-with_children make zero above s)
leaves-with_children make (suc depth) above (node v e c s) =
    let one = leaves-with_children make depth (first_of_way above v) c in
    let two = leaves-with_children make (suc depth) above s in
    let both = flat_map-append (λ (l : Leaf). leaves 0 l.first (make l.valid l.expected)) (leaves depth (first_of_way above v) c) (leaves (suc depth) above s) in
    cc

leaves-with_child : (depth : ℕ) (above v : Policy) (e : List Policy) (c s : Nodes)
    → leaves (suc depth) above (with_child v e c s) ≡ leaves depth (first_of_way above v) c ++ leaves (suc depth) above s
leaves-with_child depth above v e none s = refl
leaves-with_child depth above v e (node w f d t) s = refl

pub leaves-pruned : (depth : ℕ) (above : Policy) (tree : Nodes) → leaves depth above (pruned depth tree) ≡ leaves depth above tree
leaves-pruned depth above none = refl
leaves-pruned zero above (node v e c s) = refl
leaves-pruned (suc depth) above (node v e c s) =
    let one = leaves-pruned depth (first_of_way above v) c in
    let two = leaves-pruned (suc depth) above s in
    let kept = leaves-with_child depth above v e (pruned depth c) (pruned (suc depth) s) in
    cc

is_empty-append : (xs ys : List Leaf) → is_empty (xs ++ ys) ≡ (is_empty xs && is_empty ys)
is_empty-append [] ys = refl
is_empty-append (x ∷ xs) ys = refl

is_null-with_child : (v : Policy) (e : List Policy) (c s : Nodes) → is_null (with_child v e c s) ≡ (is_null c && is_null s)
is_null-with_child v e none s = refl
is_null-with_child v e (node w f d t) s = refl

-- what is pruned is NULL where it has no leaf
pub is_null-pruned : (depth : ℕ) (above : Policy) (tree : Nodes) → is_null (pruned depth tree) ≡ is_empty (leaves depth above tree)
is_null-pruned depth above none = refl
is_null-pruned zero above (node v e c s) = refl
is_null-pruned (suc depth) above (node v e c s) =
    let one = is_null-pruned depth (first_of_way above v) c in
    let two = is_null-pruned (suc depth) above s in
    let kept = is_null-with_child v e (pruned depth c) (pruned (suc depth) s) in
    let both = is_empty-append (leaves depth (first_of_way above v) c) (leaves (suc depth) above s) in
    cc

-- ---- nodes of the last depth replaced

-- a leaf without children as a node that is replaced
abbrev pub Replaces : (Policy → List Policy → Nodes → Nodes) → (Leaf → List Leaf) → Type 0
Replaces by to = (above valid : Policy) (expected : List Policy) (siblings : Nodes)
    → leaves 0 above (by valid expected siblings) ≡ to (record { first = first_of_way above valid; valid = valid; expected = expected }) ++ leaves 0 above siblings

pub leaves-replaced : (by : Policy → List Policy → Nodes → Nodes) (to : Leaf → List Leaf) → Replaces by to → (depth : ℕ) (above : Policy) (tree : Nodes)
    → leaves depth above (replaced depth by tree) ≡ flat_map to (leaves depth above tree)
leaves-replaced by to is depth above none = refl
leaves-replaced by to is zero above (node v e c s) = is above v e (replaced zero by s) ∙ ap (λ ls. to (record { first = first_of_way above v; valid = v; expected = e }) ++ ls) (leaves-replaced by to is zero above s)
leaves-replaced by to is (suc depth) above (node v e c s) =
    let one = leaves-replaced by to is depth (first_of_way above v) c in
    let two = leaves-replaced by to is (suc depth) above s in
    let both = flat_map-append to (leaves depth (first_of_way above v) c) (leaves (suc depth) above s) in
    cc

-- ---- 6.1.5 (g) (iii)

pub way_of_any : (above v : Policy) → is_any above ≡ true → first_of_way above v ≡ v
way_of_any above v h = ap (λ b. cond b v above) h

pub way_of_other : (above v : Policy) → is_any above ≡ false → first_of_way above v ≡ above
way_of_other above v h = ap (λ b. cond b v above) h

some_first-append : (p : Policy) (xs ys : List Leaf) → some_begins_with p (xs ++ ys) ≡ (some_begins_with p xs || some_begins_with p ys)
some_first-append p xs ys = list_any-append (λ (l : Leaf). has (l.first ∷ []) p) xs ys

-- below a policy that isn't any-policy each leaf has that as the first
join_same : (b c d : Bool) → ((b && not c) || (b && not d)) ≡ (b && not (c && d))
join_same true true d = refl
join_same true false true = refl
join_same true false false = refl
join_same false c d = refl

begins-cons : (b : Bool) (ls : List Leaf) (c : Bool) → c ≡ (b && not (is_empty ls)) → (b || c) ≡ b
begins-cons true ls c h = refl
begins-cons false ls c h = h

pub begins_below : (p above : Policy) → is_any above ≡ false → (depth : ℕ) (tree : Nodes)
    → some_begins_with p (leaves depth above tree) ≡ (has (above ∷ []) p && not (is_empty (leaves depth above tree)))
begins_below p above h depth none = no (has (above ∷ []) p)
  where
    no : (b : Bool) → false ≡ (b && false)
    no true = refl
    no false = refl
begins_below p above h zero (node v e c s) =
    let same = way_of_other above v h in
    let rest = begins-cons (has (above ∷ []) p) (leaves zero above s) (some_begins_with p (leaves zero above s)) (begins_below p above h zero s) in
    let one : (has (first_of_way above v ∷ []) p || some_begins_with p (leaves zero above s)) ≡ has (above ∷ []) p = rw same rest in
    one ∙ all (has (above ∷ []) p)
  where
    all : (b : Bool) → b ≡ (b && true)
    all true = refl
    all false = refl
begins_below p above h (suc depth) (node v e c s) =
    let same = way_of_other above v h in
    let one = begins_below p above h depth c in
    let two = begins_below p above h (suc depth) s in
    let both = some_first-append p (leaves depth above c) (leaves (suc depth) above s) in
    let joined = join_same (has (above ∷ []) p) (is_empty (leaves depth above c)) (is_empty (leaves (suc depth) above s)) in
    let empty = is_empty-append (leaves depth above c) (leaves (suc depth) above s) in
    rw same (both ∙ (ap (λ b. b || some_begins_with p (leaves (suc depth) above s)) one ∙ (ap (λ b. (has (above ∷ []) p && not (is_empty (leaves depth above c))) || b) two ∙ (joined ∙ ap (λ b. has (above ∷ []) p && not b) (sym empty)))))
