-- The valid policy tree, and what the steps of RFC 5280 6.1.3 to 6.1.5 make of it.
use Rattle.std.specs.Prelude.{ℕ, zero, suc, Bool, true, false, not, ◌&&◌, ◌||◌, List, [], ◌∷◌, ◌++◌, if◌then◌else◌}
use Rattle.x509_policy.specs.Values.{Policy, any_policy, is_any, has, Mapping}

-- Nodes that stand beside one another: none, or a node with its children, beside its further siblings. The tree is its root; `none` is the tree NULL.
pub data Nodes : Type 0 where
  none : Nodes
  node : (valid_policy : Policy) (expected_policy_set : List Policy) (children siblings : Nodes) → Nodes

abbrev pub is_null : Nodes → Bool
is_null none = true
is_null (node valid expected children siblings) = false

-- 6.1.2 (a): one node of depth 0, with any-policy
abbrev pub initial_tree : Nodes
initial_tree = node any_policy (any_policy ∷ []) none none

-- a node that expects itself, without children, beside these
abbrev pub child : Policy → Nodes → Nodes
child p siblings = node p (p ∷ []) none siblings

-- whether a node of that depth has that valid policy
abbrev pub has_node : ℕ → Policy → Nodes → Bool
has_node depth p none = false
has_node zero p (node valid expected children siblings) = has (valid ∷ []) p || has_node zero p siblings
has_node (suc depth) p (node valid expected children siblings) = has_node depth p children || has_node (suc depth) p siblings

-- whether a node of that depth has it in its expected policy set
abbrev pub is_expected : ℕ → Policy → Nodes → Bool
is_expected depth p none = false
is_expected zero p (node valid expected children siblings) = has expected p || is_expected zero p siblings
is_expected (suc depth) p (node valid expected children siblings) = is_expected depth p children || is_expected (suc depth) p siblings

-- ---- 6.1.3 (d)

-- (d) (1): for each policy P of the certificate but any-policy
--   (i) a child P of each node of depth i-1 that expects P;
--   (ii) where no node of depth i-1 expects P, a child P of the node of depth i-1 with any-policy
abbrev pub named_children : (Policy → Bool) → Policy → List Policy → List Policy → Nodes
named_children is_matched valid expected [] = none
named_children is_matched valid expected (p ∷ ps) =
    if not (is_any p) && (has expected p || (not (is_matched p) && is_any valid))
    then child p (named_children is_matched valid expected ps)
    else named_children is_matched valid expected ps

-- (d) (2): for each policy that a node of depth i-1 expects, and that isn't that of a child, a child
abbrev pub other_children : List Policy → Nodes → Nodes
other_children [] named = named
other_children (p ∷ expected) named =
    let others = other_children expected named in
    if has_node 0 p others then others else child p others

-- the children of a node of depth i-1 with this valid policy and expected policy set. (d) (2) is done where the certificate has any-policy, and
-- inhibit_anyPolicy is greater than 0, or i < n and the certificate is self-issued.
abbrev pub children_of : (Policy → Bool) → List Policy → Bool → Policy → List Policy → Nodes
children_of is_matched policies others valid expected =
    let named = named_children is_matched valid expected policies in
    if others && has policies any_policy then other_children expected named else named

-- the nodes of that depth get these children
abbrev pub with_children : ℕ → (Policy → List Policy → Nodes) → Nodes → Nodes
with_children depth make none = none
with_children zero make (node valid expected children siblings) = node valid expected (make valid expected) (with_children zero make siblings)
with_children (suc depth) make (node valid expected children siblings) = node valid expected (with_children depth make children) (with_children (suc depth) make siblings)

-- a node, where it has a child
abbrev pub with_child : Policy → List Policy → Nodes → Nodes → Nodes
with_child valid expected none siblings = siblings
with_child valid expected (node v e c s) siblings = node valid expected (node v e c s) siblings

-- (d) (3): nodes above that depth without children are deleted, until none is left
abbrev pub pruned : ℕ → Nodes → Nodes
pruned depth none = none
pruned zero (node valid expected children siblings) = node valid expected children siblings
pruned (suc depth) (node valid expected children siblings) = with_child valid expected (pruned depth children) (pruned (suc depth) siblings)

-- ---- 6.1.4 (b)

-- Each node of that depth, none of which has children, is replaced by the nodes that are told of it and of its siblings.
abbrev pub replaced : ℕ → (Policy → List Policy → Nodes → Nodes) → Nodes → Nodes
replaced depth by none = none
replaced zero by (node valid expected children siblings) = by valid expected (replaced zero by siblings)
replaced (suc depth) by (node valid expected children siblings) = node valid expected (replaced depth by children) (replaced (suc depth) by siblings)

-- the policies that the mappings say are equivalent to this one
abbrev pub subjects : List Mapping → Policy → List Policy
subjects [] id = []
subjects (m ∷ ms) id = if has (m.issuer_domain_policy ∷ []) id then m.subject_domain_policy ∷ subjects ms id else subjects ms id

-- (b) (1): each node of depth i with ID-P expects what ID-P is mapped to
abbrev pub expecting : Policy → List Policy → Policy → List Policy → Nodes → Nodes
expecting id to valid expected siblings = node valid (if has (valid ∷ []) id then to else expected) none siblings

-- (b) (1): a child ID-P of the node of depth i-1 with any-policy, which is the one that the node of depth i with any-policy is a child of (no other
-- expects any-policy, by (a)); so it stands beside that
abbrev pub beside_any : Policy → List Policy → Policy → List Policy → Nodes → Nodes
beside_any id to valid expected siblings = if is_any valid then node id to none (node valid expected none siblings) else node valid expected none siblings

-- (b) (2) (i): nodes with ID-P are deleted
abbrev pub without : Policy → Policy → List Policy → Nodes → Nodes
without id valid expected siblings = if has (valid ∷ []) id then siblings else node valid expected none siblings

-- (b) (1) for one ID-P
abbrev pub mapped_one : ℕ → Policy → List Policy → Nodes → Nodes
mapped_one depth id to tree = if has_node depth id tree then replaced depth (expecting id to) tree else replaced depth (beside_any id to) tree

-- (b) (1) for each ID-P of these mappings
abbrev pub mapped : ℕ → List Mapping → List Mapping → Nodes → Nodes
mapped depth all [] tree = tree
mapped depth all (m ∷ ms) tree = mapped depth all ms (mapped_one depth m.issuer_domain_policy (subjects all m.issuer_domain_policy) tree)

-- (b) (2) for each ID-P of these mappings
abbrev pub unmapped : ℕ → List Mapping → Nodes → Nodes
unmapped depth [] tree = tree
unmapped depth (m ∷ ms) tree = unmapped depth ms (pruned depth (replaced depth (without m.issuer_domain_policy) tree))

-- ---- 6.1.5 (g) (iii)

-- 1: the valid policies of the nodes down to that depth whose parents have any-policy
abbrev pub valid_policy_node_set : ℕ → Nodes → List Policy
valid_policy_node_set depth none = []
valid_policy_node_set zero (node valid expected children siblings) = valid ∷ valid_policy_node_set zero siblings
valid_policy_node_set (suc depth) (node valid expected children siblings) =
    valid ∷ ((if is_any valid then valid_policy_node_set depth children else []) ++ valid_policy_node_set (suc depth) siblings)

-- 2: nodes of that set are deleted, with all below them, that are neither in the user's set nor any-policy
abbrev pub within : List Policy → Nodes → Nodes
within user none = none
within user (node valid expected children siblings) =
    if is_any valid then node valid expected (within user children) (within user siblings)
    else (if has user valid then node valid expected children (within user siblings) else within user siblings)

abbrev pub children_for : List Policy → Nodes → Nodes
children_for [] siblings = siblings
children_for (p ∷ ps) siblings = child p (children_for ps siblings)

-- 3: in place of the node of depth n with any-policy the policies of the user's set that aren't in the valid policy node set, as children of its parent
abbrev pub in_place_of_any : List Policy → Policy → List Policy → Nodes → Nodes
in_place_of_any new valid expected siblings = if is_any valid then children_for new siblings else node valid expected none siblings
