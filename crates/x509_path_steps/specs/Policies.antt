-- Policies of a path that is validated (RFC 5280 6.1, RFC 5937 3.2): what is asked at the start, and where the path is refused for its policies.
use Rattle.std.specs.Option.{option_map}
use Rattle.std.specs.Prelude.{◌≡◌, ◌↔◌, ◌+◌, ℕ, suc, List, ◌∷◌, ◌++◌, length}
use Rattle.x509_path.specs.Certificates.{Certificate}
use Rattle.x509_path_steps.specs.Inputs.{Inputs}
use Rattle.x509_path_steps.specs.Says.{Say, Says, identifiers}
use Rattle.x509_policy.specs.Anchors.{IsMerged, with_flags}
use Rattle.x509_policy.specs.Follows.{IsOutcome}
use Rattle.x509_policy.specs.Levels.{In}
use Rattle.x509_policy.specs.Path.{Reason, Refused}
use Rattle.x509_policy.specs.Values as policies
use Rattle.x509_policy.specs.Values.{Policy, Settings}

-- what the caller asks, merged with the policies, without their qualifiers, and the flags of what is trusted; the policies may stand in any order
-- (RFC 5937 3.2)
pub record AreSettings (inputs : Inputs) (settings : Settings) : Type 0 where
  pub merged : (p : Policy) → In p settings.user_initial_policy_set ↔ IsMerged inputs.asked.user_initial_policy_set (option_map identifiers inputs.trust.policies) p
  pub flags : settings ≡ with_flags inputs.asked settings.user_initial_policy_set inputs.trust.flags

-- behind certificates that say that, in a path of n, one that says so is refused for that reason, whatever stands behind it
abbrev pub IsRefused : Settings → ℕ → List policies.Certificate → policies.Certificate → Reason → Type 0
IsRefused settings n before own reason =
    (behind : List policies.Certificate) → length before + suc (length behind) ≡ n → IsOutcome settings (before ++ own ∷ behind) (Refused (length before) reason)

-- A path of n certificates that begins with those is refused at this one for its policies.
pub record AreRefused (inputs : Inputs) (n : ℕ) (before : List Certificate) (c : Certificate) (reason : Reason) : Type 0 where
  pub settings : Settings
  pub said : List policies.Certificate
  pub own : policies.Certificate
  pub at_start : AreSettings inputs settings
  pub say : Say before said
  pub says : Says c own
  pub refused : IsRefused settings n said own reason
