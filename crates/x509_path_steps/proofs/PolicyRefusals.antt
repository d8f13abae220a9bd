-- Where and for which reason a path is refused for its policies.
use Rattle.std.proofs.Common.{◌≡◌, ◌==◌, ◌&&◌, ℕ, suc, ◌+◌, ◌<◌, ◌≤◌, Bool, true, false, cond, List, [], ◌∷◌, ◌++◌, length, length-append, subst, arith, Some}
use Rattle.x509_path_steps.proofs.PolicyPaths.{alike_sym, alike_trans}
use Rattle.x509_path_steps.specs.Policies.{IsRefused}
use Rattle.x509_policy.proofs.GraphEnds.{graph_as_tree}
use Rattle.x509_policy.specs.Follows.{Follows, IsAnswered, IsOutcome}
use Rattle.x509_policy.specs.Graph.{constrained, graph_from, is_empty_level, is_empty_set, next_level, outcome_by_graph, prepared_level}
use Rattle.x509_policy.specs.Levels.{Alike, Level, last_level}
use Rattle.x509_policy.specs.Path.{Counters, Outcome, Reason, Refused, Valid, RepeatedPolicy, MapsAnyPolicy, NoPolicy, has_repeated, initial_counters, last_explicit_policy, next_counters, outcome, takes_others}
use Rattle.x509_policy.specs.Values.{Certificate, Policy, Settings, maps_any_policy}
use Rattle.x509_policy.specs.declared.state.PolicyState.{PolicyState}

-- ---- where a path is refused

at_most : (depth place : ℕ) (r reason : Reason) → Alike (Refused depth r) (Refused place reason) → place ≤ depth
at_most depth place r reason (e, s) = omega arith

module _ (settings : Settings) (place : ℕ) (reason : Reason) where
  last_bound : (depth : ℕ) (ps : List Policy) (a b d : Bool)
      → Alike (cond a (Refused depth RepeatedPolicy) (cond b (Refused depth NoPolicy) (cond d (Refused depth NoPolicy) (Valid ps)))) (Refused place reason) → place ≤ depth
  last_bound depth ps true b d h = at_most depth place RepeatedPolicy reason h
  last_bound depth ps false true d h = at_most depth place NoPolicy reason h
  last_bound depth ps false false true h = at_most depth place NoPolicy reason h
  last_bound depth ps false false false h = absurd h

  next_bound : (depth behind : ℕ) (out : Outcome) (a b d : Bool) → (Alike out (Refused place reason) → place ≤ suc depth + behind)
      → Alike (cond a (Refused depth RepeatedPolicy) (cond b (Refused depth NoPolicy) (cond d (Refused depth MapsAnyPolicy) out))) (Refused place reason) → place ≤ depth + suc behind
  next_bound depth behind out true b d more h = let at = at_most depth place RepeatedPolicy reason h in omega arith
  next_bound depth behind out false true d more h = let at = at_most depth place NoPolicy reason h in omega arith
  next_bound depth behind out false false true more h = let at = at_most depth place MapsAnyPolicy reason h in omega arith
  next_bound depth behind out false false false more h = let later = more h in omega arith

  graph_bound : (depth : ℕ) (counters : Counters) (levels : List Level) (c : Certificate) (rest : List Certificate) → Alike (graph_from settings depth counters levels c rest) (Refused place reason) → place ≤ depth + length rest
  graph_bound depth counters levels c [] h =
      let level = next_level c.policies (takes_others c true counters.inhibit_any_policy) (last_level levels) in
      let policies = constrained settings.user_initial_policy_set (level ∷ levels) in
      let at = last_bound depth policies (has_repeated c.policies) (counters.explicit_policy == 0 && is_empty_level level) (last_explicit_policy c counters.explicit_policy == 0 && is_empty_set policies) h in
      omega arith
  graph_bound depth counters levels c (next ∷ rest) h =
      let level = next_level c.policies (takes_others c false counters.inhibit_any_policy) (last_level levels) in
      let left = prepared_level c.mappings (counters.policy_mapping == 0) level in
      next_bound depth (length rest) (graph_from settings (suc depth) (next_counters c counters) (left ∷ levels) next rest) (has_repeated c.policies) (counters.explicit_policy == 0 && is_empty_level level) (maps_any_policy c.mappings)
      (λ more. graph_bound (suc depth) (next_counters c counters) (left ∷ levels) next rest more) h

  -- it is one of its certificates
  pub refused_within : (path : List Certificate) → IsOutcome settings path (Refused place reason) → place < length path
  refused_within [] h = absurd h
  refused_within (c ∷ rest) h =
      let graph = alike_trans (outcome_by_graph settings c rest) (outcome settings c rest) (Refused place reason) (graph_as_tree settings c rest) (alike_sym (Refused place reason) (outcome settings c rest) h) in
      let bound = graph_bound 0 (initial_counters settings (suc (length rest))) [] c rest graph in
      omega arith

module _ (settings : Settings) (before : List Certificate) (own : Certificate) (r : Reason) where
  -- what is answered at one that isn't the last
  pub refused_on : (n : ℕ) → length before + 1 < n → (state : PolicyState) → IsAnswered settings n before own (Some r) state → IsRefused settings n before own r
  refused_on n more state h [] all = absurd (omega (arith, more, all))
  refused_on n more state h (next ∷ rest) all = h next rest all

  -- and at the last
  pub refused_last : (state : PolicyState) → Follows settings (suc (length before)) before state → (place : ℕ) → IsOutcome settings (before ++ own ∷ []) (Refused place r) → IsRefused settings (suc (length before)) before own r
  refused_last state follows place h (next ∷ rest) all = absurd (omega (arith, all))
  refused_last state follows place h [] all =
      let least = follows.passes own [] (omega arith) place r h in
      let most = refused_within settings place r (before ++ own ∷ []) h in
      let same : place ≡ length before = omega (arith, least, most, length-append before (own ∷ [])) in
      subst (λ p. IsOutcome settings (before ++ own ∷ []) (Refused p r)) same h
