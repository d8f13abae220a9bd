-- What is asked of policies at the start of a path.
use Rattle.std.proofs.Common.{◌≡◌, ◌∙◌, ◌↔◌, List, Option, sym, ap, subst}
use Rattle.std.specs.Option.{option_map}
use Rattle.x509_path_steps.specs.Inputs.{Inputs, LendsInputs, asked_of, user_set}
use Rattle.x509_path_steps.specs.Policies.{AreSettings}
use Rattle.x509_path_steps.specs.Says.{identifiers}
use Rattle.x509_path_steps.specs.Steps.{chosen}
use Rattle.x509_path_steps.specs.declared.settings.PathSettings.{PathSettings}
use Rattle.x509_path_steps.specs.declared.trusted.Trusted.{Trusted}
use Rattle.x509_policy.specs.Anchors.{IsMerged, with_flags}
use Rattle.x509_policy.specs.Levels.{In}
use Rattle.x509_policy.specs.Values.{Policy, Settings}
use Rattle.x509_policy.specs.declared.anchor.AnchorFlags.{AnchorFlags}

module _ (inputs : Inputs) (trusted : Trusted) (settings : PathSettings) (lends : LendsInputs trusted settings inputs) (user : List Policy) (is_user : user ≡ user_set settings.user_initial_policy_set)
    (merged : Option (List Policy)) (said : (p : Policy) → In p (chosen user merged) ↔ IsMerged user (option_map identifiers inputs.trust.policies) p) (made : Settings) (is_made : made ≡ with_flags (asked_of settings) (chosen user merged) trusted.policy_flags) where
  own : user ≡ inputs.asked.user_initial_policy_set
  own = is_user ∙ sym (ap (λ (s : Settings). s.user_initial_policy_set) lends.asked)

  same : made.user_initial_policy_set ≡ chosen user merged
  same = ap (λ (s : Settings). s.user_initial_policy_set) is_made

  pub at_start : AreSettings inputs made
  at_start = record {
    merged = λ p. subst (λ ps. In p ps ↔ IsMerged inputs.asked.user_initial_policy_set (option_map identifiers inputs.trust.policies) p) (sym same) (subst (λ us. In p (chosen user merged) ↔ IsMerged us (option_map identifiers inputs.trust.policies) p) own (said p));
    flags = is_made
        ∙ ap (λ (s : Settings). with_flags s (chosen user merged) trusted.policy_flags) (sym lends.asked)
        ∙ ap (λ ps. with_flags inputs.asked ps trusted.policy_flags) (sym same)
        ∙ ap (λ (f : AnchorFlags). with_flags inputs.asked made.user_initial_policy_set f) (sym lends.trust.flags);
  }
