use Rattle.std.proofs.Common.{◌≡◌, ◌∙◌, ◌++◌, ◌∷◌, [], ◌+◌, false, length, sym, ap, subst, length-append}
use Rattle.x509_policy.specs.Edges.{leads_of}
use Rattle.x509_policy.specs.Follows.{levels_of}
use Rattle.x509_policy.specs.Path.{has_repeated}
use Rattle.x509_policy.specs.Values.{maps_any_policy}
use Rattle.x509_policy.specs.Views.{certificate_of, counters_of}
use Rattle.x509_policy.proofs.States.{Runs, runs_of, follows_of, same_ends, leads_missing, leads_some, repeated_here, none_left_here, maps_any_here, runs_on}
use Rattle.x509_policy.proofs.state.PolicyState.add.Goals as goal

pub returns-then-again-clause-answer : goal.returns-then-again-clause-answer
returns-then-again-clause-answer c = λ settings n before f next rest e.
    let self = c.args.self.now in
    repeated_here settings n before (counters_of self.counters) self.levels.items (runs_of f) (certificate_of c.args.certificate.now) (sym c.in_ok-again.ensures ∙ c.if-again.true) (next ∷ rest) e

pub returns-then-is_missing-clause-answer : goal.returns-then-is_missing-clause-answer
returns-then-is_missing-clause-answer c = λ settings n before f.
    let self = c.args.self.now in
    let level = c.in_ok-next.next in
    let once : has_repeated (certificate_of c.args.certificate.now).policies ≡ false = sym c.in_ok-again.ensures ∙ c.if-again.false in
    let (zero, empty) = leads_missing c.is_missing.result self.counters.explicit_policy level.leads.items c.as_slice.result.now c.as_slice.ensures.value c.is_missing.ensures c.if-is_missing.true in
    none_left_here settings n before (counters_of self.counters) self.levels.items (runs_of f) (certificate_of c.args.certificate.now)
    (leads_of level.leads.items) level.policies (same_ends _ _ _ c.in_ok-next.ensures) c.in_ok-next.ensures.0 once zero empty

pub returns-then-maps_any_policy-clause-answer : goal.returns-then-maps_any_policy-clause-answer
returns-then-maps_any_policy-clause-answer c = λ settings n before f.
    let self = c.args.self.now in
    let level = c.in_ok-next.next in
    let once : has_repeated (certificate_of c.args.certificate.now).policies ≡ false = sym c.in_ok-again.ensures ∙ c.if-again.false in
    maps_any_here settings n before (counters_of self.counters) self.levels.items (runs_of f) (certificate_of c.args.certificate.now)
    (leads_of level.leads.items) level.policies (same_ends _ _ _ c.in_ok-next.ensures) c.in_ok-next.ensures.0 once
    (leads_some c.is_missing.result self.counters.explicit_policy level.leads.items c.as_slice.result.now c.as_slice.ensures.value c.is_missing.ensures c.if-is_missing.false)
    (sym c.maps_any_policy.ensures ∙ c.if-maps_any_policy.true)

pub returns-clause-answer : goal.returns-clause-answer
returns-clause-answer c = λ settings n before f.
    let self = c.args.self.now in
    let level = c.in_ok-next.next in
    let cert = certificate_of c.args.certificate.now in
    let once : has_repeated cert.policies ≡ false = sym c.in_ok-again.ensures ∙ c.if-again.false in
    let free : maps_any_policy cert.mappings ≡ false = sym c.maps_any_policy.ensures ∙ c.if-maps_any_policy.false in
    let runs = runs_on settings n before (counters_of self.counters) self.levels.items (runs_of f) cert
    (leads_of level.leads.items) level.policies (same_ends _ _ _ c.in_ok-next.ensures) c.in_ok-next.ensures.0 once
    (leads_some c.is_missing.result self.counters.explicit_policy level.leads.items c.as_slice.result.now c.as_slice.ensures.value c.is_missing.ensures c.if-is_missing.false)
    free c.in_ok-level.level c.in_ok-level.ensures in
    let longer : length (before ++ cert ∷ []) ≡ length before + 1 = length-append before (cert ∷ []) in
    follows_of settings n (before ++ cert ∷ []) (record { settings = self.settings; counters = c.next-self.result; levels = c.push.new.self }) f.carries.asked
    (c.in_ok-push.ensures.len ∙ (ap (λ k. k + 1) f.carries.place ∙ sym longer))
    (subst (Runs settings n (before ++ cert ∷ []) (counters_of c.next-self.result)) (ap levels_of (sym c.in_ok-push.ensures.items))
    (subst (λ k. Runs settings n (before ++ cert ∷ []) k (levels_of (self.levels.items ++ c.in_ok-level.level ∷ []))) (sym c.next-self.ensures) runs))
