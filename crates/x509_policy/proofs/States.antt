-- The state behind the certificates of a path.
use Rattle.std.proofs.Common.{◌≡◌, ◌∙◌, ◌↔◌, inl, inr, ℕ, suc, ◌+◌, ◌-◌, ◌≤◌, ◌==◌, ◌&&◌, Bool, true, false, IsTrue, cond, List, [], ◌∷◌, ◌++◌, length, map, Some, refl, sym, ap, subst, append_assoc, length-append, arith}
use Rattle.std.specs.List.{slice_get}
use Rattle.x509_policy.specs.Values.{Policy, any_policy, has, Mapping, maps_any_policy, Certificate, Settings}
use Rattle.x509_policy.specs.Path.{Counters, initial_counters, next_counters, last_explicit_policy, takes_others, has_repeated, Outcome, Refused, Valid, Reason, RepeatedPolicy, MapsAnyPolicy, NoPolicy, outcome}
use Rattle.x509_policy.specs.Levels.{In, Entry, Level, IsAt, Expects, initial_level, last_level, IsNext, IsPrepared, IsConstrained, ByLevels, repeated, none_left, maps_any, goes_on, none_constrained, valid, Alike}
use Rattle.x509_policy.specs.Stands.{Stands}
use Rattle.x509_policy.specs.Graph.{next_level, prepared_level, constrained, is_empty_level, is_empty_set, graph_from}
use Rattle.x509_policy.specs.Edges.{Edge, Expecting, lead_of, leads_of, expectation_of, level_of, each_itself, ends, certificate_leads, prepared_leads, prepared_expectations, IsPreparedOf}
use Rattle.x509_policy.specs.Follows.{IsOutcome, Follows, Passes, Reaches, made, levels_on, levels_of, expectations_on, expectations_of}
use Rattle.std.specs.Borrow.{Bor}
use Rattle.x509_policy.specs.Views.{counters_of, octets_of, settings_of}
use Rattle.x509_policy.specs.declared.level.Lead.{Lead}
use Rattle.x509_policy.specs.declared.level.Level as code
use Rattle.x509_policy.specs.declared.state.PolicyState.{PolicyState}
use Rattle.x509_policy.proofs.Members.{not_both}
use Rattle.x509_policy.proofs.Steps.{at_of_leads}
use Rattle.x509_policy.proofs.Outcomes.{none_from, outcome_by_levels}
use Rattle.x509_policy.proofs.GraphEnds.{graph-levels, next-stands, prepared-stands, hangs_of}
use Rattle.x509_policy.proofs.PairsBack.{levels_push}
use Rattle.x509_policy.proofs.Pairs.{fresh_empty, fresh_expects, certificate_right, prepared_right, expect, expect_is}

-- ---- what is answered

join : (o out : Outcome) (place : ℕ) (reason : Reason) → Alike out o → Alike (Refused place reason) o → Alike out (Refused place reason)
join (Refused p r) (Refused d q) place reason (x, y) (z, w) = (x ∙ sym z, y ∙ sym w)
join (Refused p r) (Valid qs) place reason a b = absurd a
join (Valid ps) out place reason a b = absurd b

both_answers : (settings : Settings) (cs : List Certificate) (out : Outcome) (place : ℕ) (reason : Reason) → IsOutcome settings cs out → IsOutcome settings cs (Refused place reason) → Alike out (Refused place reason)
both_answers settings [] out place reason a b = absurd a
both_answers settings (c ∷ cs) out place reason a b = join (outcome settings c cs) out place reason a b

at_least : (depth place : ℕ) (r reason : Reason) → Alike (Refused depth r) (Refused place reason) → depth ≤ place
at_least depth place r reason (e, s) = omega arith

module _ (settings : Settings) (place : ℕ) (reason : Reason) where
  last_place : (depth : ℕ) (ps : List Policy) (a b d : Bool)
      → Alike (cond a (Refused depth RepeatedPolicy) (cond b (Refused depth NoPolicy) (cond d (Refused depth NoPolicy) (Valid ps)))) (Refused place reason) → depth ≤ place
  last_place depth ps true b d h = at_least depth place RepeatedPolicy reason h
  last_place depth ps false true d h = at_least depth place NoPolicy reason h
  last_place depth ps false false true h = at_least depth place NoPolicy reason h
  last_place depth ps false false false h = absurd h

  next_place : (depth : ℕ) (out : Outcome) (a b d : Bool) → (Alike out (Refused place reason) → suc depth ≤ place)
      → Alike (cond a (Refused depth RepeatedPolicy) (cond b (Refused depth NoPolicy) (cond d (Refused depth MapsAnyPolicy) out))) (Refused place reason) → depth ≤ place
  next_place depth out true b d more h = at_least depth place RepeatedPolicy reason h
  next_place depth out false true d more h = at_least depth place NoPolicy reason h
  next_place depth out false false true more h = at_least depth place MapsAnyPolicy reason h
  next_place depth out false false false more h = let later = more h in omega arith

  graph_place : (depth : ℕ) (counters : Counters) (levels : List Level) (c : Certificate) (rest : List Certificate) → Alike (graph_from settings depth counters levels c rest) (Refused place reason) → depth ≤ place
  graph_place depth counters levels c [] h =
      let level = next_level c.policies (takes_others c true counters.inhibit_any_policy) (last_level levels) in
      let policies = constrained settings.user_initial_policy_set (level ∷ levels) in
      last_place depth policies (has_repeated c.policies) (counters.explicit_policy == 0 && is_empty_level level) (last_explicit_policy c counters.explicit_policy == 0 && is_empty_set policies) h
  graph_place depth counters levels c (next ∷ rest) h =
      let level = next_level c.policies (takes_others c false counters.inhibit_any_policy) (last_level levels) in
      let left = prepared_level c.mappings (counters.policy_mapping == 0) level in
      next_place depth (graph_from settings (suc depth) (next_counters c counters) (left ∷ levels) next rest) (has_repeated c.policies) (counters.explicit_policy == 0 && is_empty_level level) (maps_any_policy c.mappings)
      (λ more. graph_place (suc depth) (next_counters c counters) (left ∷ levels) next rest more) h

module _ (settings : Settings) (n : ℕ) where
  pub passes_of : (before : List Certificate) (counters : Counters) (levels : List Level) → Reaches settings n before counters levels → Stands levels → Passes settings n before
  passes_of before counters levels reaches stands c rest e place reason is =
      let out = graph_from settings (length before) counters levels c rest in
      graph_place settings place reason (length before) counters levels c rest
      (both_answers settings (before ++ c ∷ rest) out place reason (reaches c rest out e (graph-levels settings (length before) counters levels c rest stands)) is)

  pub start_reaches : (counters : Counters) → counters ≡ initial_counters settings n → Reaches settings n [] counters []
  start_reaches counters is c rest out e by =
      let all : suc (length rest) ≡ n = omega arith in
      outcome_by_levels settings c rest out (subst (λ k. ByLevels settings 0 k [] c rest out) (is ∙ ap (initial_counters settings) (sym all)) by)

  pub step_reaches : (before : List Certificate) (counters : Counters) (levels : List Level) (c : Certificate) (level left : Level) → Reaches settings n before counters levels
      → has_repeated c.policies ≡ false → IsNext c.policies (takes_others c false counters.inhibit_any_policy) (last_level levels) level
      → (counters.explicit_policy ≡ 0 → level ≡ [] → ⊥) → maps_any_policy c.mappings ≡ false → IsPrepared c.mappings (counters.policy_mapping == 0) level left
      → Reaches settings n (before ++ c ∷ []) (next_counters c counters) (left ∷ levels)
  step_reaches before counters levels c level left reaches once is some free prepared next rest out e by =
      let longer : length (before ++ c ∷ []) ≡ suc (length before) = length-append before (c ∷ []) ∙ omega arith in
      let whole : length before + suc (length (next ∷ rest)) ≡ n = omega arith in
      subst (λ cs. IsOutcome settings cs out) (sym (append_assoc before (c ∷ []) (next ∷ rest)))
      (reaches c (next ∷ rest) out whole (goes_on once level is some free left prepared (subst (λ d. ByLevels settings d (next_counters c counters) (left ∷ levels) next rest out) longer by)))

-- ---- what is expected on the last level

abbrev ExpectsBy : Level → List Edge → Type 0
ExpectsBy level expectations = (v x : Policy) → Expects level v x ↔ In (x, v) expectations

root_expects : ExpectsBy initial_level ((any_policy, any_policy) ∷ [])
root_expects v x = (
  (λ (e, is, same, ex). elim is [
    | inl here ↦
        let one : any_policy ≡ x = elim (subst (λ (k : Entry). In x k.expected) (sym here) ex) [ inl s ↦ s | inr h ↦ absurd h ] in
        let two : any_policy ≡ v = ap (λ (k : Entry). k.valid) here ∙ same in
        inl (ap (λ q. (q, any_policy)) one ∙ ap (λ q. (x, q)) two)
    | inr h ↦ absurd h
  ]),
  (λ is. elim is [
    | inl same ↦ (record { valid = any_policy; expected = any_policy ∷ []; parents = [] }, inl refl, ap (λ (e : Edge). e.1) same, inl (ap (λ (e : Edge). e.0) same))
    | inr h ↦ absurd h
  ]),
)

on_expects : (above : List Level) (expectations : List Edge) (levels : List code.Level) → ExpectsBy (last_level above) expectations → ExpectsBy (last_level (levels_on above levels)) (expectations_on expectations levels)
on_expects above expectations [] h = h
on_expects above expectations (l ∷ levels) h =
    let leads = leads_of l.leads.items in
    let own = map expectation_of l.expectations.items in
    on_expects (made l ∷ above) own levels (λ v x. ((λ ex. expect_is leads own v x ex), (λ is. expect leads own v x is)))

pub last_expects : (levels : List code.Level) → (v x : Policy) → Expects (last_level (levels_of levels)) v x ↔ In (x, v) (expectations_of levels)
last_expects levels = on_expects [] ((any_policy, any_policy) ∷ []) levels root_expects

pub expecting : (levels : List code.Level) → Stands (levels_of levels)
    → (IsAt (last_level (levels_of levels)) any_policy → Expects (last_level (levels_of levels)) any_policy any_policy) → Expecting (last_level (levels_of levels)) (expectations_of levels)
expecting levels stands itself = record { expects = last_expects levels; any_itself = itself; any_expected = stands.any_expected }

-- what the last one expects
last_on : (expectations : List Edge) (levels : List code.Level) (level : code.Level) → slice_get levels (length levels - 1) ≡ Some level → expectations_on expectations levels ≡ map expectation_of level.expectations.items
last_on expectations [] level h = cc
last_on expectations (l ∷ []) level h = let same : l ≡ level = cc in ap (λ (k : code.Level). map expectation_of k.expectations.items) same
last_on expectations (l ∷ (k ∷ levels)) level h =
    let last : suc (suc (length levels)) - 1 ≡ suc (length levels) = omega arith in
    let before : length levels ≡ suc (length levels) - 1 = omega arith in
    let behind : slice_get (l ∷ (k ∷ levels)) (suc (length levels)) ≡ Some level = subst (λ i. slice_get (l ∷ (k ∷ levels)) i ≡ Some level) last h in
    last_on (map expectation_of l.expectations.items) (k ∷ levels) level (subst (λ i. slice_get (k ∷ levels) i ≡ Some level) before behind)

pub last_expectations : (levels : List code.Level) (level : code.Level) → slice_get levels (length levels - 1) ≡ Some level → expectations_of levels ≡ map expectation_of level.expectations.items
last_expectations levels level h = last_on ((any_policy, any_policy) ∷ []) levels level h

-- ---- any-policy expects itself

abbrev pub AnyItself : Level → Type 0
AnyItself level = IsAt level any_policy → Expects level any_policy any_policy

pub root_any : AnyItself initial_level
root_any at = (root_expects any_policy any_policy).1 (inl refl)

pub prepared_any : (ms : List Mapping) (is_inhibited : Bool) (level left : Level) → maps_any_policy ms ≡ false → ((v x : Policy) → Expects level v x ↔ (IsAt level v × (v ≡ x)))
    → IsPrepared ms is_inhibited level left → IsAt left any_policy → Expects left any_policy any_policy
prepared_any ms true level left free fresh is at =
    let (u, lead) = is.follows any_policy at in
    let (old, other) = (is.leads u any_policy).0 lead in
    (is.expects any_policy any_policy).1 ((fresh any_policy any_policy).1 (at_of_leads level u any_policy old, refl), other)
prepared_any ms false level left free fresh is at =
    let (u, lead) = is.follows any_policy at in
    elim ((is.leads u any_policy).0 lead) [
      | inl old ↦ (is.expects_other any_policy any_policy (none_from ms free)).1 ((fresh any_policy any_policy).1 (at_of_leads level u any_policy old, refl))
      | inr (issuer, nobody, up) ↦ absurd (none_from ms free issuer)
    ]

-- ---- one certificate

no_leads : (leads : List Edge) (policies : List Policy) → level_of leads (each_itself policies) ≡ [] → leads ≡ []
no_leads [] policies h = refl
no_leads (l ∷ leads) policies h = cc

pub record Runs (settings : Settings) (n : ℕ) (before : List Certificate) (counters : Counters) (levels : List Level) : Type 0 where
  pub reaches : Reaches settings n before counters levels
  pub stands : Stands levels
  pub any_itself : AnyItself (last_level levels)

module _ (settings : Settings) (n : ℕ) (before : List Certificate) (counters : Counters) (levels : List code.Level) (runs : Runs settings n before counters (levels_of levels)) (c : Certificate) where
  abbrev Above : List Level
  Above = levels_of levels

  pub repeated_here : has_repeated c.policies ≡ true → (rest : List Certificate) → length before + suc (length rest) ≡ n → IsOutcome settings (before ++ c ∷ rest) (Refused (length before) RepeatedPolicy)
  repeated_here is rest e = runs.reaches c rest (Refused (length before) RepeatedPolicy) e (repeated is)

  module _ (last : Bool) (leads : List Edge) (policies : List Policy) (same : has policies ≡ has (ends leads))
      (made_so : leads ≡ certificate_leads c.policies (takes_others c last counters.inhibit_any_policy) (expectations_of levels)) where
    abbrev pub Here : Level
    Here = level_of leads (each_itself policies)

    here_next : IsNext c.policies (takes_others c last counters.inhibit_any_policy) (last_level Above) Here
    here_next = certificate_right c.policies (takes_others c last counters.inhibit_any_policy) (last_level Above) (expectations_of levels) (expecting levels runs.stands runs.any_itself) leads policies same made_so

    pub here_stands : Stands (Here ∷ Above)
    here_stands = next-stands c.policies (takes_others c last counters.inhibit_any_policy) Here Above runs.stands here_next

    here_some : (counters.explicit_policy ≡ 0 → leads ≡ [] → ⊥) → counters.explicit_policy ≡ 0 → Here ≡ [] → ⊥
    here_some some z empty = some z (no_leads leads policies empty)

  -- that isn't the last
  module _ (leads : List Edge) (policies : List Policy) (same : has policies ≡ has (ends leads))
      (made_so : leads ≡ certificate_leads c.policies (takes_others c false counters.inhibit_any_policy) (expectations_of levels)) (once : has_repeated c.policies ≡ false) where
    pub none_left_here : counters.explicit_policy ≡ 0 → leads ≡ [] → (next : Certificate) (rest : List Certificate) → length before + suc (suc (length rest)) ≡ n
        → IsOutcome settings (before ++ c ∷ next ∷ rest) (Refused (length before) NoPolicy)
    none_left_here z empty next rest e =
        runs.reaches c (next ∷ rest) (Refused (length before) NoPolicy) e
        (none_left once (Here false leads policies same made_so) (here_next false leads policies same made_so) z (fresh_empty leads policies same empty))

    module _ (some : counters.explicit_policy ≡ 0 → leads ≡ [] → ⊥) where
      pub maps_any_here : maps_any_policy c.mappings ≡ true → (next : Certificate) (rest : List Certificate) → length before + suc (suc (length rest)) ≡ n
          → IsOutcome settings (before ++ c ∷ next ∷ rest) (Refused (length before) MapsAnyPolicy)
      maps_any_here any next rest e =
          runs.reaches c (next ∷ rest) (Refused (length before) MapsAnyPolicy) e
          (maps_any once (Here false leads policies same made_so) (here_next false leads policies same made_so) (here_some false leads policies same made_so some) any)

      pub runs_on : maps_any_policy c.mappings ≡ false → (level : code.Level) → IsPreparedOf leads policies c.mappings (counters.policy_mapping == 0) level
          → Runs settings n (before ++ c ∷ []) (next_counters c counters) (levels_of (levels ++ level ∷ []))
      runs_on free level p =
          let here : Level = Here false leads policies same made_so in
          let stands : Stands (here ∷ Above) = here_stands false leads policies same made_so in
          let so : made level ≡ level_of (prepared_leads p.issuers leads policies (counters.policy_mapping == 0)) (prepared_expectations p.issuers policies c.mappings (counters.policy_mapping == 0)) =
          ap (λ l. level_of l (map expectation_of level.expectations.items)) p.has_leads ∙ ap (λ e. level_of (prepared_leads p.issuers leads policies (counters.policy_mapping == 0)) e) p.has_expectations in
          let is : IsPrepared c.mappings (counters.policy_mapping == 0) here (made level) =
          subst (λ l. IsPrepared c.mappings (counters.policy_mapping == 0) here l) (sym so)
          (prepared_right c.mappings leads policies same p.issuers p.same free (hangs_of stands.all).any_alone (counters.policy_mapping == 0)) in
          subst (Runs settings n (before ++ c ∷ []) (next_counters c counters)) (sym (levels_push [] levels level)) record {
            reaches = step_reaches settings n before counters Above c here (made level) runs.reaches once (here_next false leads policies same made_so) (here_some false leads policies same made_so some) free is;
            stands = prepared-stands c.mappings (counters.policy_mapping == 0) here (made level) Above free stands is;
            any_itself = prepared_any c.mappings (counters.policy_mapping == 0) here (made level) free (fresh_expects leads policies same) is;
          }

  -- that is the last
  module _ (leads : List Edge) (policies : List Policy) (same : has policies ≡ has (ends leads))
      (made_so : leads ≡ certificate_leads c.policies (takes_others c true counters.inhibit_any_policy) (expectations_of levels)) (once : has_repeated c.policies ≡ false) (all : length before + 1 ≡ n) where
    pub none_left_last : counters.explicit_policy ≡ 0 → leads ≡ [] → IsOutcome settings (before ++ c ∷ []) (Refused (length before) NoPolicy)
    none_left_last z empty =
        runs.reaches c [] (Refused (length before) NoPolicy) all
        (none_left once (Here true leads policies same made_so) (here_next true leads policies same made_so) z (fresh_empty leads policies same empty))

    module _ (some : counters.explicit_policy ≡ 0 → leads ≡ [] → ⊥) (found : List Policy)
        (right : (p : Policy) → In p found ↔ IsConstrained settings.user_initial_policy_set (Here true leads policies same made_so ∷ Above) p) where
      pub none_constrained_last : last_explicit_policy c counters.explicit_policy ≡ 0 → found ≡ [] → IsOutcome settings (before ++ c ∷ []) (Refused (length before) NoPolicy)
      none_constrained_last z empty =
          runs.reaches c [] (Refused (length before) NoPolicy) all
          (none_constrained once (Here true leads policies same made_so) (here_next true leads policies same made_so) (here_some true leads policies same made_so some) z
          (λ p is. subst (In p) empty ((right p).1 is)))

      pub valid_last : (last_explicit_policy c counters.explicit_policy ≡ 0 → found ≡ [] → ⊥) → IsOutcome settings (before ++ c ∷ []) (Valid found)
      valid_last kept =
          runs.reaches c [] (Valid found) all
          (valid once (Here true leads policies same made_so) (here_next true leads policies same made_so) (here_some true leads policies same made_so some) found right kept)

pub runs_of : {settings : Settings} {n : ℕ} {before : List Certificate} {state : PolicyState} → Follows settings n before state → Runs settings n before (counters_of state.counters) (levels_of state.levels.items)
runs_of f = record { reaches = f.carries.reaches; stands = f.carries.stands; any_itself = f.carries.any_itself }

pub follows_of : (settings : Settings) (n : ℕ) (before : List Certificate) (state : PolicyState) → settings_of state.settings ≡ settings → state.levels.len ≡ length before
    → Runs settings n before (counters_of state.counters) (levels_of state.levels.items) → Follows settings n before state
follows_of settings n before state asked place runs = record {
  passes = passes_of settings n before (counters_of state.counters) (levels_of state.levels.items) runs.reaches runs.stands;
  carries = record { asked = asked; place = place; reaches = runs.reaches; stands = runs.stands; any_itself = runs.any_itself };
}

-- ---- what the code tests

pub same_ends : (leads made_so : List Edge) (policies : List Policy) → (leads ≡ made_so) × (has policies ≡ has (ends made_so)) → has policies ≡ has (ends leads)
same_ends leads made_so policies (is, same) = same ∙ ap (λ l. has (ends l)) (sym is)

no_items : {X Y : Type 0} (f : X → Y) (xs : List X) → map f xs ≡ [] → xs ≡ []
no_items f [] h = refl
no_items f (x ∷ xs) h = cc

module _ (missing : Bool) (counter : ℕ) (items slice : List Lead) (is : slice ≡ items) (tests : IsTrue missing ↔ ((counter ≡ 0) × (slice ≡ []))) where
  pub leads_missing : missing ≡ true → (counter ≡ 0) × (leads_of items ≡ [])
  leads_missing h = let (z, e) = tests.0 h in (z, ap leads_of (sym is ∙ e))

  pub leads_some : missing ≡ false → counter ≡ 0 → leads_of items ≡ [] → ⊥
  leads_some h z e = not_both missing (tests.1 (z, is ∙ no_items lead_of items e)) h

module _ (missing : Bool) (counter : ℕ) (policies : List Policy) (slice : List (Bor (List ℕ))) (is : octets_of slice ≡ policies) (tests : IsTrue missing ↔ ((counter ≡ 0) × (slice ≡ []))) where
  pub policies_missing : missing ≡ true → (counter ≡ 0) × (policies ≡ [])
  policies_missing h = let (z, e) = tests.0 h in (z, sym is ∙ ap octets_of e)

  pub policies_some : missing ≡ false → counter ≡ 0 → policies ≡ [] → ⊥
  policies_some h z e = not_both missing (tests.1 (z, no_items (λ (p : Bor (List ℕ)). p.now) slice (is ∙ e))) h
