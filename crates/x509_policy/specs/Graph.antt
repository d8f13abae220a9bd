-- The levels of a path, made from what its certificates say: each is a list with each policy once, the policies that lead to it and what it expects
-- (RFC 9618 calls them together the valid policy graph).
use Rattle.std.specs.Prelude.{ℕ, suc, ◌+◌, ◌==◌, Bool, true, false, not, ◌&&◌, ◌||◌, List, [], ◌∷◌, ◌++◌, filter, map, filter_map, flat_map, length, Option, Some, None, if◌then◌else◌}
use Rattle.std.specs.List.{list_any}
use Rattle.x509_policy.specs.Values.{Policy, any_policy, is_any, has, maps_any_policy, Mapping, Certificate, Settings}
use Rattle.x509_policy.specs.Tree.{subjects}
use Rattle.x509_policy.specs.Path.{Counters, initial_counters, next_counters, last_explicit_policy, takes_others, has_repeated, Outcome, Refused, Valid, RepeatedPolicy, MapsAnyPolicy, NoPolicy}
use Rattle.x509_policy.specs.Levels.{Entry, Level, last_level}

abbrev pub is_at : Level → Policy → Bool
is_at level p = list_any (λ e. has (e.valid ∷ []) p) level

abbrev pub some_expects : Level → Policy → Bool
some_expects level p = list_any (λ e. has e.expected p) level

-- the policies that expect this one
abbrev pub expecting : Level → Policy → List Policy
expecting level p = map (λ e. e.valid) (filter (λ e. has e.expected p) level)

-- a policy that expects itself, with these parents
abbrev pub entry : Policy → List Policy → Entry
entry p parents = record { valid = p; expected = p ∷ []; parents = parents }

-- 6.1.3 (d) (1)
abbrev pub named_entry : Level → Policy → Option Entry
named_entry above p =
    if is_any p then None
    else (if some_expects above p then Some (entry p (expecting above p))
    else (if is_at above any_policy then Some (entry p (any_policy ∷ [])) else None))

-- these policies, where they aren't there yet, each as it is made
abbrev pub with_new : (Policy → Entry) → List Policy → Level → Level
with_new make [] level = level
with_new make (p ∷ ps) level = with_new make ps (if is_at level p then level else level ++ make p ∷ [])

-- 6.1.3 (d), (e)
abbrev pub next_level : Option (List Policy) → Bool → Level → Level
next_level None others above = []
next_level (Some policies) others above =
    let named = filter_map (named_entry above) policies in
    if others && has policies any_policy then with_new (λ p. entry p (expecting above p)) (flat_map (λ e. e.expected) above) named else named

abbrev pub is_issuer : List Mapping → Policy → Bool
is_issuer mappings p = list_any (λ m. has (m.issuer_domain_policy ∷ []) p) mappings

abbrev pub mapped_entry : List Mapping → Entry → Entry
mapped_entry mappings e = record { valid = e.valid; expected = if is_issuer mappings e.valid then subjects mappings e.valid else e.expected; parents = e.parents }

-- the parents of any-policy
abbrev pub parents_of_any : Level → List Policy
parents_of_any level = flat_map (λ e. e.parents) (filter (λ e. is_any e.valid) level)

-- 6.1.4 (b)
abbrev pub prepared_level : List Mapping → Bool → Level → Level
prepared_level mappings true level = filter (λ e. not (is_issuer mappings e.valid)) level
prepared_level mappings false level =
    let mapped = map (mapped_entry mappings) level in
    if is_at level any_policy
    then with_new (λ p. record { valid = p; expected = subjects mappings p; parents = parents_of_any level }) (map (λ m. m.issuer_domain_policy) mappings) mapped
    else mapped

-- the policies right below any-policy that lead to one of these on the last level, one level after the other back to the root
abbrev pub firsts : List Level → List Policy → List Policy
firsts [] reached = []
firsts (level ∷ levels) reached =
    let live = filter (λ e. has reached e.valid) level in
    map (λ e. e.valid) (filter (λ e. not (is_any e.valid) && has e.parents any_policy) live) ++ firsts levels (flat_map (λ e. e.parents) live)

abbrev pub leading : List Level → List Policy
leading levels = (if is_at (last_level levels) any_policy then any_policy ∷ [] else []) ++ firsts levels (map (λ e. e.valid) (last_level levels))

-- 6.1.5 (g)
abbrev pub constrained : List Policy → List Level → List Policy
constrained user levels =
    let lead = leading levels in
    if has user any_policy then lead else filter (λ p. has lead p || has lead any_policy) user

abbrev pub is_empty_level : Level → Bool
is_empty_level [] = true
is_empty_level (e ∷ level) = false

abbrev pub is_empty_set : List Policy → Bool
is_empty_set [] = true
is_empty_set (p ∷ ps) = false

abbrev pub graph_from : Settings → ℕ → Counters → List Level → Certificate → List Certificate → Outcome
graph_from settings depth counters levels c [] =
    let level = next_level c.policies (takes_others c true counters.inhibit_any_policy) (last_level levels) in
    let policies = constrained settings.user_initial_policy_set (level ∷ levels) in
    if has_repeated c.policies then Refused depth RepeatedPolicy
    else (if counters.explicit_policy == 0 && is_empty_level level then Refused depth NoPolicy
    else (if last_explicit_policy c counters.explicit_policy == 0 && is_empty_set policies then Refused depth NoPolicy else Valid policies))
graph_from settings depth counters levels c (next ∷ rest) =
    let level = next_level c.policies (takes_others c false counters.inhibit_any_policy) (last_level levels) in
    if has_repeated c.policies then Refused depth RepeatedPolicy
    else (if counters.explicit_policy == 0 && is_empty_level level then Refused depth NoPolicy
    else (if maps_any_policy c.mappings then Refused depth MapsAnyPolicy
    else graph_from settings (suc depth) (next_counters c counters) (prepared_level c.mappings (counters.policy_mapping == 0) level ∷ levels) next rest))

-- the outcome of a path by its graph
abbrev pub outcome_by_graph : Settings → Certificate → List Certificate → Outcome
outcome_by_graph settings first rest = graph_from settings 0 (initial_counters settings (suc (length rest))) [] first rest

-- ---- how large it is

-- how many policies are expected on a level
abbrev pub count_expected : Level → ℕ
count_expected [] = 0
count_expected (e ∷ level) = length e.expected + count_expected level
