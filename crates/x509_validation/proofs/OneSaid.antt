-- A certificate says one thing of policies, and a path asks one thing at its start.
use Rattle.std.proofs.Common.{◌≡◌, ◌∙◌, ◌+◌, ◌<◌, ℕ, Bool, List, [], ◌∷◌, ◌++◌, length, Option, refl, sym, ap, subst}
use Rattle.std.specs.Option.{option_map}
use Rattle.x509_ext.specs.CertificatePolicies.{certificate_policies}
use Rattle.x509_ext.specs.Identifiers.{id_ce}
use Rattle.x509_ext.specs.InhibitAnyPolicy.{inhibit_any_policy}
use Rattle.x509_ext.specs.PolicyConstraints.{policy_constraints}
use Rattle.x509_ext.specs.PolicyMapping.{policy_mappings}
use Rattle.x509_path.proofs.Lent.{one_test}
use Rattle.x509_path.specs.Certificates.{Certificate, HasPayload, extensions_of}
use Rattle.x509_path_steps.proofs.AllowedNames.{one_found}
use Rattle.x509_path_steps.proofs.PolicyPaths.{AreSame, goes_on_there, one_reason, valid_there}
use Rattle.x509_path_steps.specs.Inputs.{Inputs}
use Rattle.x509_path_steps.specs.Policies.{AreRefused, AreSettings, IsRefused}
use Rattle.x509_path_steps.specs.Says.{Say, Says, any_policy_inhibit_of, explicit_policy_of, identifiers, mapping_inhibit_of, mappings_of}
use Rattle.x509_policy.specs.Follows.{Follows, IsOutcome}
use Rattle.x509_policy.specs.Path.{Reason, Valid}
use Rattle.x509_policy.specs.Values as policies
use Rattle.x509_policy.specs.Values.{Mapping, Policy, Settings}
use Rattle.x509_policy.specs.declared.state.PolicyState.{PolicyState}

same_parts : (a b : Option (List Policy)) (m n : List Mapping) (e f i j k l : Option ℕ) (s t : Bool) → a ≡ b → m ≡ n → e ≡ f → i ≡ j → k ≡ l → s ≡ t
    → ◌≡◌ {A = policies.Certificate} (record { policies = a; mappings = m; require_explicit_policy = e; inhibit_policy_mapping = i; inhibit_any_policy = k; is_self_issued = s })
    (record { policies = b; mappings = n; require_explicit_policy = f; inhibit_policy_mapping = j; inhibit_any_policy = l; is_self_issued = t })
same_parts a b m n e f i j k l s t p q r u v w = rw (p, q, r, u, v, w) refl

pub one_said : (c : Certificate) (s t : policies.Certificate) → Says c s → Says c t → s ≡ t
one_said c s t h k =
    let es = extensions_of c in
    let policies_same = one_found (HasPayload certificate_policies (id_ce 32) es) h.policies k.policies h.has_policies k.has_policies in
    let mappings_same = one_found (HasPayload policy_mappings (id_ce 33) es) h.mappings k.mappings h.has_mappings k.has_mappings in
    let constraints_same = one_found (HasPayload policy_constraints (id_ce 36) es) h.constraints k.constraints h.has_constraints k.has_constraints in
    let inhibit_same = one_found (HasPayload inhibit_any_policy (id_ce 54) es) h.inhibit k.inhibit h.has_inhibit k.has_inhibit in
    same_parts s.policies t.policies s.mappings t.mappings s.require_explicit_policy t.require_explicit_policy s.inhibit_policy_mapping t.inhibit_policy_mapping s.inhibit_any_policy t.inhibit_any_policy s.is_self_issued t.is_self_issued
    (h.are_policies ∙ ap (option_map identifiers) policies_same ∙ sym k.are_policies)
    (h.are_mappings ∙ ap mappings_of mappings_same ∙ sym k.are_mappings)
    (h.is_explicit ∙ ap explicit_policy_of constraints_same ∙ sym k.is_explicit)
    (h.is_mapping ∙ ap mapping_inhibit_of constraints_same ∙ sym k.is_mapping)
    (h.is_any ∙ ap any_policy_inhibit_of inhibit_same ∙ sym k.is_any)
    (one_test s.is_self_issued t.is_self_issued h.is_own k.is_own)

pub one_say : (cs : List Certificate) (ss ts : List policies.Certificate) → Say cs ss → Say cs ts → ss ≡ ts
one_say [] [] [] h k = refl
one_say [] [] (t ∷ ts) h k = absurd k
one_say [] (s ∷ ss) ts h k = absurd h
one_say (c ∷ cs) [] ts h k = absurd h
one_say (c ∷ cs) (s ∷ ss) [] h k = absurd k
one_say (c ∷ cs) (s ∷ ss) (t ∷ ts) (h, more) (k, others) = ap (λ x. x ∷ ss) (one_said c s t h k) ∙ ap (λ xs. t ∷ xs) (one_say cs ss ts more others)

one_start : (inputs : Inputs) (s t : Settings) → AreSettings inputs s → AreSettings inputs t → AreSame s t
one_start inputs s t h k = record {
  policies = λ p. ((λ i. (k.merged p).1 ((h.merged p).0 i)), (λ i. (h.merged p).1 ((k.merged p).0 i)));
  mapping = ap (λ (x : Settings). x.initial_policy_mapping_inhibit) h.flags ∙ sym (ap (λ (x : Settings). x.initial_policy_mapping_inhibit) k.flags);
  explicit = ap (λ (x : Settings). x.initial_explicit_policy) h.flags ∙ sym (ap (λ (x : Settings). x.initial_explicit_policy) k.flags);
  any = ap (λ (x : Settings). x.initial_any_policy_inhibit) h.flags ∙ sym (ap (λ (x : Settings). x.initial_any_policy_inhibit) k.flags);
}

-- ---- one certificate of a path of n

module _ (inputs : Inputs) (n : ℕ) (before : List Certificate) (c : Certificate) (settings : Settings) (said : List policies.Certificate) (own : policies.Certificate)
    (at_start : AreSettings inputs settings) (say : Say before said) (says : Says c own) where
  pub refused_so : (q : Reason) → IsRefused settings n said own q → AreRefused inputs n before c q
  refused_so q is = record { settings = settings; said = said; own = own; at_start = at_start; say = say; says = says; refused = is }

  module _ (q : Reason) (h : AreRefused inputs n before c q) where
    same : AreSame settings h.settings
    same = one_start inputs settings h.settings at_start h.at_start

    refused_here : IsRefused h.settings n said own q
    refused_here =
        let of_own = subst (λ o. IsRefused h.settings n h.said o q) (one_said c h.own own h.says says) h.refused in
        subst (λ ss. IsRefused h.settings n ss own q) (one_say before h.said said h.say say) of_own

    pub only : length said < n → (r : Reason) → IsRefused settings n said own r → r ≡ q
    only within r is = one_reason settings h.settings same n said own within r q is refused_here

    pub not_on : length said < n → length said + 1 < n → (state : PolicyState) → Follows settings n (said ++ own ∷ []) state → ⊥
    not_on within more state follows = goes_on_there settings h.settings same n said own within more state follows q refused_here

    pub not_valid : length said < n → length said + 1 ≡ n → (found : List Policy) → IsOutcome settings (said ++ own ∷ []) (Valid found) → ⊥
    not_valid within all found outcome = valid_there settings h.settings same n said own within all found outcome q refused_here
