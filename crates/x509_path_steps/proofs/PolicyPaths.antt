-- What is answered of the policies of a path: there is one answer, and the policies that are asked for may stand in any order.
use Rattle.std.proofs.Common.{◌≡◌, ◌∙◌, ◌↔◌, ◌-◌, inl, inr, ℕ, zero, suc, ◌+◌, ◌<◌, List, [], ◌∷◌, ◌++◌, length, length-append, append_assoc, refl, sym, ap, subst, arith}
use Rattle.x509_path_steps.specs.Policies.{IsRefused}
use Rattle.x509_policy.proofs.GraphEnds.{graph_as_tree, graph_by_levels}
use Rattle.x509_policy.proofs.Outcomes.{outcome_by_levels}
use Rattle.x509_policy.specs.Follows.{Follows, IsOutcome}
use Rattle.x509_policy.specs.Graph.{outcome_by_graph}
use Rattle.x509_policy.specs.Levels.{Alike, ByLevels, In, IsConstrained, Level, goes_on, maps_any, none_constrained, none_left, repeated, valid}
use Rattle.x509_policy.specs.Path.{Counters, Outcome, Reason, Refused, Valid, initial_counters, outcome}
use Rattle.x509_policy.specs.Values.{Certificate, Policy, Settings, any_policy}
use Rattle.x509_policy.specs.declared.state.PolicyState.{PolicyState}

-- ---- outcomes that are alike

pub alike_sym : (a b : Outcome) → Alike a b → Alike b a
alike_sym (Refused p r) (Refused q s) (e, f) = (sym e, sym f)
alike_sym (Refused p r) (Valid qs) h = absurd h
alike_sym (Valid ps) (Refused q s) h = absurd h
alike_sym (Valid ps) (Valid qs) h = λ p. ((h p).1, (h p).0)

pub alike_trans : (a b c : Outcome) → Alike a b → Alike b c → Alike a c
alike_trans (Refused p r) (Refused q s) (Refused o t) (e, f) (g, h) = (e ∙ g, f ∙ h)
alike_trans (Refused p r) (Refused q s) (Valid os) h k = absurd k
alike_trans (Refused p r) (Valid qs) c h k = absurd h
alike_trans (Valid ps) (Refused q s) c h k = absurd h
alike_trans (Valid ps) (Valid qs) (Refused o t) h k = absurd k
alike_trans (Valid ps) (Valid qs) (Valid os) h k = λ p. ((λ i. (k p).0 ((h p).0 i)), (λ i. (h p).1 ((k p).1 i)))

-- ---- the same settings

-- the same policies, in any order, and the same flags
pub record AreSame (s t : Settings) : Type 0 where
  pub policies : (p : Policy) → In p s.user_initial_policy_set ↔ In p t.user_initial_policy_set
  pub mapping : s.initial_policy_mapping_inhibit ≡ t.initial_policy_mapping_inhibit
  pub explicit : s.initial_explicit_policy ≡ t.initial_explicit_policy
  pub any : s.initial_any_policy_inhibit ≡ t.initial_any_policy_inhibit

module _ (s t : Settings) (same : AreSame s t) where
  there : (levels : List Level) (p : Policy) → IsConstrained s.user_initial_policy_set levels p → IsConstrained t.user_initial_policy_set levels p
  there levels p (inl (leads, any)) = inl (leads, (same.policies any_policy).0 any)
  there levels p (inr (asked, not_any, some)) = inr ((same.policies p).0 asked, (λ any. not_any ((same.policies any_policy).1 any)), some)

  back : (levels : List Level) (p : Policy) → IsConstrained t.user_initial_policy_set levels p → IsConstrained s.user_initial_policy_set levels p
  back levels p (inl (leads, any)) = inl (leads, (same.policies any_policy).1 any)
  back levels p (inr (asked, not_any, some)) = inr ((same.policies p).1 asked, (λ any. not_any ((same.policies any_policy).0 any)), some)

  along : {depth : ℕ} {counters : Counters} {levels : List Level} {c : Certificate} {rest : List Certificate} {out : Outcome}
      → ByLevels s depth counters levels c rest out → ByLevels t depth counters levels c rest out
  along (repeated again) = repeated again
  along (none_left once level next ends empty) = none_left once level next ends empty
  along (maps_any once level next some any) = maps_any once level next some any
  along (goes_on once level next some free prepared is more) = goes_on once level next some free prepared is (along more)
  along {levels = levels} (none_constrained once level next some ends none) = none_constrained once level next some ends (λ p h. none p (back (level ∷ levels) p h))
  along {levels = levels} (valid once level next some policies right kept) =
      valid once level next some policies (λ p. ((λ h. there (level ∷ levels) p ((right p).0 h)), (λ h. (right p).1 (back (level ∷ levels) p h)))) kept

  counters_same : (n : ℕ) → initial_counters s n ≡ initial_counters t n
  counters_same n = rw (same.mapping, same.explicit, same.any) refl

  pub same_outcome : (path : List Certificate) (out : Outcome) → IsOutcome s path out → IsOutcome t path out
  same_outcome [] out h = h
  same_outcome (c ∷ rest) out h =
      let by : ByLevels t 0 (initial_counters t (suc (length rest))) [] c rest (outcome_by_graph s c rest) =
      subst (λ k. ByLevels t 0 k [] c rest (outcome_by_graph s c rest)) (counters_same (suc (length rest))) (along (graph_by_levels s c rest)) in
      alike_trans out (outcome s c rest) (outcome t c rest) h
      (alike_trans (outcome s c rest) (outcome_by_graph s c rest) (outcome t c rest)
      (alike_sym (outcome_by_graph s c rest) (outcome s c rest) (graph_as_tree s c rest)) (outcome_by_levels t c rest (outcome_by_graph s c rest) by))

-- ---- one answer

pub one_outcome : (settings : Settings) (path : List Certificate) (a b : Outcome) → IsOutcome settings path a → IsOutcome settings path b → Alike a b
one_outcome settings [] a b h k = absurd h
one_outcome settings (c ∷ rest) a b h k = alike_trans a (outcome settings c rest) b h (alike_sym b (outcome settings c rest) k)

abbrev filled : ℕ → Certificate → List Certificate
filled zero c = []
filled (suc k) c = c ∷ filled k c

filled_length : (k : ℕ) (c : Certificate) → length (filled k c) ≡ k
filled_length zero c = refl
filled_length (suc k) c = ap suc (filled_length k c)

module _ (s t : Settings) (same : AreSame s t) (n : ℕ) (said : List Certificate) (own : Certificate) (within : length said < n) where
  pub one_reason : (r q : Reason) → IsRefused s n said own r → IsRefused t n said own q → r ≡ q
  one_reason r q h k =
      let behind = filled (n - suc (length said)) own in
      let all : length said + suc (length behind) ≡ n = omega (arith, within, filled_length (n - suc (length said)) own) in
      (one_outcome t (said ++ own ∷ behind) (Refused (length said) r) (Refused (length said) q) (same_outcome s t same (said ++ own ∷ behind) (Refused (length said) r) (h behind all)) (k behind all)).1

  -- not where the state goes on behind it
  pub goes_on_there : length said + 1 < n → (state : PolicyState) → Follows s n (said ++ own ∷ []) state → (q : Reason) → IsRefused t n said own q → ⊥
  goes_on_there more state follows q k =
      let behind = filled (n - suc (suc (length said))) own in
      let longer : length (said ++ own ∷ []) ≡ suc (length said) = length-append said (own ∷ []) ∙ omega arith in
      let all : length said + suc (length (own ∷ behind)) ≡ n = omega (arith, more, filled_length (n - suc (suc (length said))) own) in
      let refused = back_outcome (said ++ own ∷ own ∷ behind) (Refused (length said) q) (k (own ∷ behind) all) in
      let late = follows.passes own behind (omega (arith, all, longer)) (length said) q (subst (λ cs. IsOutcome s cs (Refused (length said) q)) (sym (append_assoc said (own ∷ []) (own ∷ behind))) refused) in
      omega (arith, late, longer)
    where
      back_outcome : (path : List Certificate) (out : Outcome) → IsOutcome t path out → IsOutcome s path out
      back_outcome path out h = same_outcome t s (record { policies = λ p. ((same.policies p).1, (same.policies p).0); mapping = sym same.mapping; explicit = sym same.explicit; any = sym same.any }) path out h

  -- nor where it is the last of a path that is valid
  pub valid_there : length said + 1 ≡ n → (policies : List Policy) → IsOutcome s (said ++ own ∷ []) (Valid policies) → (q : Reason) → IsRefused t n said own q → ⊥
  valid_there all policies h q k =
      one_outcome t (said ++ own ∷ []) (Valid policies) (Refused (length said) q) (same_outcome s t same (said ++ own ∷ []) (Valid policies) h) (k [] all)
