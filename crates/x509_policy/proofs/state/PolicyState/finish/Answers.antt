use Rattle.std.proofs.Common.{◌≡◌, ◌∙◌, ◌↔◌, ◌++◌, ◌∷◌, List, [], suc, true, false, length, sym, subst, arith}
use Rattle.x509_policy.specs.Edges.{leads_of}
use Rattle.x509_policy.specs.Follows.{levels_of}
use Rattle.x509_policy.specs.Path.{has_repeated}
use Rattle.x509_policy.specs.Values.{Policy, Settings}
use Rattle.x509_policy.specs.Views.{certificate_of, counters_of, settings_of}
use Rattle.x509_policy.specs.Follows.{IsOutcome, last_of}
use Rattle.x509_policy.specs.Levels.{In, IsConstrained}
use Rattle.x509_policy.specs.Stands.{AllHang}
use Rattle.x509_policy.specs.Path.{Refused, Valid, RepeatedPolicy, NoPolicy}
use Rattle.x509_policy.proofs.States.{runs_of, same_ends, leads_missing, leads_some, policies_missing, policies_some, repeated_here, here_stands, none_left_last, none_constrained_last, valid_last}
use Rattle.x509_policy.proofs.state.PolicyState.finish.Goals as goal

pub returns-then-again-clause-answer : goal.returns-then-again-clause-answer
returns-then-again-clause-answer c = λ settings before f.
    let self = c.args.self.now in
    let cert = certificate_of c.args.certificate.now in
    subst (λ d. IsOutcome settings (before ++ cert ∷ []) (Refused d RepeatedPolicy)) (sym f.carries.place ∙ sym c.len-place.ensures)
    (repeated_here settings (suc (length before)) before (counters_of self.counters) self.levels.items (runs_of f) cert (sym c.in_ok-again.ensures ∙ c.if-again.true) [] (omega arith))

pub returns-then-is_missing-clause-answer : goal.returns-then-is_missing-clause-answer
returns-then-is_missing-clause-answer c = λ settings before f.
    let self = c.args.self.now in
    let cert = certificate_of c.args.certificate.now in
    let level = c.in_ok-next.next in
    let once : has_repeated cert.policies ≡ false = sym c.in_ok-again.ensures ∙ c.if-again.false in
    let (zero, empty) = leads_missing c.is_missing.result self.counters.explicit_policy level.leads.items c.as_slice.result.now c.as_slice.ensures.value c.is_missing.ensures c.if-is_missing.true in
    subst (λ d. IsOutcome settings (before ++ cert ∷ []) (Refused d NoPolicy)) (sym f.carries.place ∙ sym c.len-place.ensures)
    (none_left_last settings (suc (length before)) before (counters_of self.counters) self.levels.items (runs_of f) cert
    (leads_of level.leads.items) level.policies (same_ends _ _ _ c.in_ok-next.ensures) c.in_ok-next.ensures.0 once (omega arith) zero empty)

pub returns-then-is_missing-2-clause-answer : goal.returns-then-is_missing-2-clause-answer
returns-then-is_missing-2-clause-answer c = λ settings before f.
    let self = c.args.self.now in
    let cert = certificate_of c.args.certificate.now in
    let level = c.in_ok-next.next in
    let found = c.in_ok-policies.policies in
    let once : has_repeated cert.policies ≡ false = sym c.in_ok-again.ensures ∙ c.if-again.false in
    let same = same_ends _ _ _ c.in_ok-next.ensures in
    let hang : AllHang (last_of level ∷ levels_of self.levels.items) =
    (here_stands settings (suc (length before)) before (counters_of self.counters) self.levels.items (runs_of f) cert true (leads_of level.leads.items) level.policies same c.in_ok-next.ensures.0).all in
    let right : (p : Policy) → In p found ↔ IsConstrained (settings_of self.settings).user_initial_policy_set (last_of level ∷ levels_of self.levels.items) p =
    subst (λ ls. (p : Policy) → In p found ↔ IsConstrained (settings_of self.settings).user_initial_policy_set (last_of level ∷ levels_of ls) p) c.deref.ensures.value
    (c.in_ok-policies.ensures same (subst (λ ls. AllHang (last_of level ∷ levels_of ls)) (sym c.deref.ensures.value) hang)) in
    let asked : (p : Policy) → In p found ↔ IsConstrained settings.user_initial_policy_set (last_of level ∷ levels_of self.levels.items) p =
    subst (λ (s : Settings). (p : Policy) → In p found ↔ IsConstrained s.user_initial_policy_set (last_of level ∷ levels_of self.levels.items) p) f.carries.asked right in
    let some = leads_some c.is_missing.result self.counters.explicit_policy level.leads.items c.as_slice.result.now c.as_slice.ensures.value c.is_missing.ensures c.if-is_missing.false in
    let (zero, empty) = policies_missing c.is_missing-2.result c.last_explicit_policy-counter.result c.in_ok-policies.policies c.as_slice-2.result.now c.as_slice-2.ensures c.is_missing-2.ensures c.if-is_missing-2.true in
    subst (λ d. IsOutcome settings (before ++ cert ∷ []) (Refused d NoPolicy)) (sym f.carries.place ∙ sym c.len-place.ensures)
    (none_constrained_last settings (suc (length before)) before (counters_of self.counters) self.levels.items (runs_of f) cert
    (leads_of level.leads.items) level.policies same c.in_ok-next.ensures.0 once (omega arith) some found asked (sym c.last_explicit_policy-counter.ensures ∙ zero) empty)

pub returns-clause-answer : goal.returns-clause-answer
returns-clause-answer c = λ settings before f.
    let self = c.args.self.now in
    let cert = certificate_of c.args.certificate.now in
    let level = c.in_ok-next.next in
    let found = c.in_ok-policies.policies in
    let once : has_repeated cert.policies ≡ false = sym c.in_ok-again.ensures ∙ c.if-again.false in
    let same = same_ends _ _ _ c.in_ok-next.ensures in
    let hang : AllHang (last_of level ∷ levels_of self.levels.items) =
    (here_stands settings (suc (length before)) before (counters_of self.counters) self.levels.items (runs_of f) cert true (leads_of level.leads.items) level.policies same c.in_ok-next.ensures.0).all in
    let right : (p : Policy) → In p found ↔ IsConstrained (settings_of self.settings).user_initial_policy_set (last_of level ∷ levels_of self.levels.items) p =
    subst (λ ls. (p : Policy) → In p found ↔ IsConstrained (settings_of self.settings).user_initial_policy_set (last_of level ∷ levels_of ls) p) c.deref.ensures.value
    (c.in_ok-policies.ensures same (subst (λ ls. AllHang (last_of level ∷ levels_of ls)) (sym c.deref.ensures.value) hang)) in
    let asked : (p : Policy) → In p found ↔ IsConstrained settings.user_initial_policy_set (last_of level ∷ levels_of self.levels.items) p =
    subst (λ (s : Settings). (p : Policy) → In p found ↔ IsConstrained s.user_initial_policy_set (last_of level ∷ levels_of self.levels.items) p) f.carries.asked right in
    let some = leads_some c.is_missing.result self.counters.explicit_policy level.leads.items c.as_slice.result.now c.as_slice.ensures.value c.is_missing.ensures c.if-is_missing.false in
    let kept = policies_some c.is_missing-2.result c.last_explicit_policy-counter.result c.in_ok-policies.policies c.as_slice-2.result.now c.as_slice-2.ensures c.is_missing-2.ensures c.if-is_missing-2.false in
    subst (λ (ps : List Policy). IsOutcome settings (before ++ cert ∷ []) (Valid ps)) (sym c.into_vec.ensures.same)
    (valid_last settings (suc (length before)) before (counters_of self.counters) self.levels.items (runs_of f) cert
    (leads_of level.leads.items) level.policies same c.in_ok-next.ensures.0 once (omega arith) some found asked
    (λ zero empty. kept (c.last_explicit_policy-counter.ensures ∙ zero) empty))
