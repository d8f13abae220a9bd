-- Policies of a path (RFC 5280 6.1): the steps that speak of them, each under its letter, as one function over what the certificates say.
use Rattle.std.specs.Prelude.{ℕ, suc, ◌-◌, ◌==◌, min, Bool, true, false, not, ◌&&◌, ◌||◌, List, [], ◌∷◌, ◌++◌, length, filter, if◌then◌else◌, Option, Some, None}
use Rattle.x509_policy.specs.Values.{Policy, any_policy, is_any, has, is_repeated, maps_any_policy, Mapping, Certificate, Settings}
use Rattle.x509_policy.specs.Tree.{Nodes, none, is_null, initial_tree, has_node, is_expected, children_of, with_children, pruned, replaced, mapped, unmapped, valid_policy_node_set, within, in_place_of_any}

-- ---- the counters

pub record Counters : Type 0 where
  pub explicit_policy : ℕ
  pub policy_mapping : ℕ
  pub inhibit_any_policy : ℕ

-- 6.1.2 (d), (e), (f), for a path of n certificates
abbrev pub initial_counters : Settings → ℕ → Counters
initial_counters settings n = record {
  explicit_policy = if settings.initial_explicit_policy then 0 else suc n;
  policy_mapping = if settings.initial_policy_mapping_inhibit then 0 else suc n;
  inhibit_any_policy = if settings.initial_any_policy_inhibit then 0 else suc n;
}

-- 6.1.4 (h): one less, where it isn't 0, behind a certificate that isn't self-issued
abbrev pub counted : Bool → ℕ → ℕ
counted is_self_issued counter = if is_self_issued then counter else counter - 1

-- 6.1.4 (i), (j): what the certificate says, where that is less
abbrev pub limited : Option ℕ → ℕ → ℕ
limited None counter = counter
limited (Some said) counter = min said counter

-- 6.1.4 (h), (i), (j)
abbrev pub next_counters : Certificate → Counters → Counters
next_counters c counters = record {
  explicit_policy = limited c.require_explicit_policy (counted c.is_self_issued counters.explicit_policy);
  policy_mapping = limited c.inhibit_policy_mapping (counted c.is_self_issued counters.policy_mapping);
  inhibit_any_policy = limited c.inhibit_any_policy (counted c.is_self_issued counters.inhibit_any_policy);
}

abbrev pub is_zero : Option ℕ → Bool
is_zero None = false
is_zero (Some said) = said == 0

-- 6.1.5 (a), (b)
abbrev pub last_explicit_policy : Certificate → ℕ → ℕ
last_explicit_policy c explicit_policy = if is_zero c.require_explicit_policy then 0 else explicit_policy - 1

-- ---- the tree

-- whether 6.1.3 (d) (2) is done, where the certificate has any-policy
abbrev pub takes_others : Certificate → Bool → ℕ → Bool
takes_others c is_last inhibit_any_policy = not (inhibit_any_policy == 0) || (not is_last && c.is_self_issued)

-- 6.1.3 (d), (e), for the certificate behind that depth of the tree
abbrev pub processed : Option (List Policy) → Bool → ℕ → Nodes → Nodes
processed None others depth tree = none
processed (Some policies) others depth tree = pruned (suc depth) (with_children depth (children_of (λ p. is_expected depth p tree) policies others) tree)

-- 6.1.4 (b)
abbrev pub prepared : List Mapping → ℕ → ℕ → Nodes → Nodes
prepared mappings policy_mapping depth tree = if policy_mapping == 0 then unmapped depth mappings tree else mapped depth mappings mappings tree

-- 6.1.5 (g) (iii)
abbrev pub intersected : List Policy → ℕ → Nodes → Nodes
intersected user depth tree =
    let new = filter (λ p. not (has (valid_policy_node_set depth tree) p)) user in
    pruned depth (replaced depth (in_place_of_any new) (within user tree))

-- 6.1.5 (g)
abbrev pub final_tree : List Policy → ℕ → Nodes → Nodes
final_tree user depth tree = if has user any_policy then tree else intersected user depth tree

-- The user-constrained policy set: the valid policies of the nodes of the final tree whose parents have any-policy, and any-policy itself where
-- a node of depth n has it.
abbrev pub policies_of : ℕ → Nodes → List Policy
policies_of depth tree =
    filter (λ p. not (is_any p)) (valid_policy_node_set depth tree) ++ (if has_node depth any_policy tree then any_policy ∷ [] else [])

-- ---- a path

pub data Reason : Type 0 where
  -- a policy twice in a certificate
  RepeatedPolicy : Reason
  -- a mapping from or to any-policy (6.1.4 (a))
  MapsAnyPolicy : Reason
  -- no policy is left where one is asked for (6.1.3 (f), 6.1.5 (g))
  NoPolicy : Reason

pub data Outcome : Type 0 where
  -- the certificate, from 0 on, and what is wrong there
  Refused : ℕ → Reason → Outcome
  -- the user-constrained policy set
  Valid : List Policy → Outcome

abbrev pub has_repeated : Option (List Policy) → Bool
has_repeated None = false
has_repeated (Some policies) = is_repeated policies

-- the end, behind certificate n, with the tree that 6.1.3 left
abbrev pub ended : Settings → ℕ → ℕ → Nodes → Outcome
ended settings depth explicit_policy tree =
    let final = final_tree settings.user_initial_policy_set (suc depth) tree in
    if explicit_policy == 0 && is_null final then Refused depth NoPolicy else Valid (policies_of (suc depth) final)

-- From one certificate on: `depth` certificates stand before it, which left these counters and this tree.
abbrev pub outcome_from : Settings → ℕ → Counters → Nodes → Certificate → List Certificate → Outcome
outcome_from settings depth counters tree c [] =
    let processed_tree = processed c.policies (takes_others c true counters.inhibit_any_policy) depth tree in
    if has_repeated c.policies then Refused depth RepeatedPolicy
    else (if counters.explicit_policy == 0 && is_null processed_tree then Refused depth NoPolicy
    else ended settings depth (last_explicit_policy c counters.explicit_policy) processed_tree)
outcome_from settings depth counters tree c (next ∷ rest) =
    let processed_tree = processed c.policies (takes_others c false counters.inhibit_any_policy) depth tree in
    if has_repeated c.policies then Refused depth RepeatedPolicy
    else (if counters.explicit_policy == 0 && is_null processed_tree then Refused depth NoPolicy
    else (if maps_any_policy c.mappings then Refused depth MapsAnyPolicy
    else outcome_from settings (suc depth) (next_counters c counters) (prepared c.mappings counters.policy_mapping (suc depth) processed_tree) next rest))

-- the outcome of a path of a first certificate and these behind it
abbrev pub outcome : Settings → Certificate → List Certificate → Outcome
outcome settings first rest = outcome_from settings 0 (initial_counters settings (suc (length rest))) initial_tree first rest
