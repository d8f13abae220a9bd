-- What a trust anchor says of policies, and what a caller asks below it (RFC 5937 3.2).
use Rattle.std.specs.Prelude.{◌⊎◌, ◌||◌, List, Option, Some, None}
use Rattle.x509_policy.specs.Values.{Policy, any_policy, Settings}
use Rattle.x509_policy.specs.Levels.{In}
use Rattle.x509_policy.specs.declared.anchor.AnchorFlags.{AnchorFlags}

-- a set has it, or any-policy
abbrev pub Accepts : List Policy → Policy → Type 0
Accepts set p = In p set ⊎ In any_policy set

-- the intersection, where any-policy stands for each policy
abbrev pub IsCommon : List Policy → List Policy → Policy → Type 0
IsCommon user anchor p = (In p user × Accepts anchor p) ⊎ (In p anchor × Accepts user p)

-- a policy of the user-initial-policy-set, below a trust anchor that may have a policy set
abbrev pub IsMerged : List Policy → Option (List Policy) → Policy → Type 0
IsMerged user None p = In p user
IsMerged user (Some anchor) p = IsCommon user anchor p

-- a flag is set where the caller or the trust anchor sets it
abbrev pub with_flags : Settings → List Policy → AnchorFlags → Settings
with_flags settings policies flags = record {
  user_initial_policy_set = policies;
  initial_policy_mapping_inhibit = settings.initial_policy_mapping_inhibit || flags.inhibit_policy_mapping;
  initial_explicit_policy = settings.initial_explicit_policy || flags.require_explicit_policy;
  initial_any_policy_inhibit = settings.initial_any_policy_inhibit || flags.inhibit_any_policy;
}
