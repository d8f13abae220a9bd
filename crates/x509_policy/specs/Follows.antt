-- What is answered to a path, certificate by certificate.
use Rattle.std.specs.Prelude.{◌≡◌, ℕ, suc, ◌+◌, ◌≤◌, false, List, [], ◌∷◌, ◌++◌, map, length, Option, Some, None}
use Rattle.x509_policy.specs.Values.{any_policy, Certificate, Settings, is_repeated}
use Rattle.x509_policy.specs.Path.{Counters, Outcome, Refused, Valid, Reason, RepeatedPolicy, MapsAnyPolicy, NoPolicy, outcome}
use Rattle.x509_policy.specs.Levels.{Level, IsAt, Expects, last_level, ByLevels, Alike}
use Rattle.x509_policy.specs.Stands.{Stands}
use Rattle.x509_policy.specs.Edges.{Edge, leads_of, expectation_of, each_itself, level_of}
use Rattle.x509_policy.specs.Views.{settings_of, counters_of, octets_of}
use Rattle.x509_policy.specs.declared.level.Level as code
use Rattle.x509_policy.specs.declared.level.NextLevel.{NextLevel}
use Rattle.x509_policy.specs.declared.state.PolicyState.{PolicyState}
use Rattle.x509_policy.specs.declared.state.PolicyReason.{PolicyReason}
use Rattle.x509_policy.specs.declared.state.PolicyReason.TheVariants as reasons
use Rattle.x509_policy.specs.declared.state.PolicyOutcome.{PolicyOutcome}
use Rattle.x509_policy.specs.declared.state.PolicyOutcome.TheVariants as outcomes

-- What the valid policy tree answers to a path, a set of policies in any order. A path of no certificates has no answer.
abbrev pub IsOutcome : Settings → List Certificate → Outcome → Type 0
IsOutcome settings [] out = ⊥
IsOutcome settings (first ∷ rest) out = Alike out (outcome settings first rest)

-- Nothing is wrong at these certificates, with which a path of n begins: whatever stands behind them, it is refused behind them, if at all.
abbrev pub Passes : Settings → ℕ → List Certificate → Type 0
Passes settings n before = (c : Certificate) (rest : List Certificate) → length before + suc (length rest) ≡ n → (place : ℕ) (reason : Reason)
    → IsOutcome settings (before ++ c ∷ rest) (Refused place reason) → length before ≤ place

-- what these levels answer is what is answered to the path
abbrev pub Reaches : Settings → ℕ → List Certificate → Counters → List Level → Type 0
Reaches settings n before counters levels = (c : Certificate) (rest : List Certificate) (out : Outcome) → length before + suc (length rest) ≡ n
    → ByLevels settings (length before) counters levels c rest out → IsOutcome settings (before ++ c ∷ rest) out

abbrev pub made : code.Level → Level
made level = level_of (leads_of level.leads.items) (map expectation_of level.expectations.items)

-- the levels, last first, above these
abbrev pub levels_on : List Level → List code.Level → List Level
levels_on above [] = above
levels_on above (level ∷ levels) = levels_on (made level ∷ above) levels

abbrev pub levels_of : List code.Level → List Level
levels_of levels = levels_on [] levels

-- what the last of these levels expects, below that
abbrev pub expectations_on : List Edge → List code.Level → List Edge
expectations_on above [] = above
expectations_on above (level ∷ levels) = expectations_on (map expectation_of level.expectations.items) levels

abbrev pub expectations_of : List code.Level → List Edge
expectations_of levels = expectations_on ((any_policy, any_policy) ∷ []) levels

-- the level of the last certificate
abbrev pub last_of : NextLevel → Level
last_of next = level_of (leads_of next.leads.items) (each_itself next.policies)

pub record Carries (settings : Settings) (n : ℕ) (before : List Certificate) (state : PolicyState) : Type 0 where
  pub asked : settings_of state.settings ≡ settings
  pub place : state.levels.len ≡ length before
  pub reaches : Reaches settings n before (counters_of state.counters) (levels_of state.levels.items)
  pub stands : Stands (levels_of state.levels.items)
  pub any_itself : IsAt (last_level (levels_of state.levels.items)) any_policy → Expects (last_level (levels_of state.levels.items)) any_policy any_policy

-- the state behind these certificates, with which a path of n begins
pub record Follows (settings : Settings) (n : ℕ) (before : List Certificate) (state : PolicyState) : Type 0 where
  pub passes : Passes settings n before
  pub carries : Carries settings n before state

abbrev pub reason_of : PolicyReason → Reason
reason_of reasons.Repeated = RepeatedPolicy
reason_of reasons.MapsAnyPolicy = MapsAnyPolicy
reason_of reasons.NoPolicy = NoPolicy

abbrev pub outcome_of : PolicyOutcome → Outcome
outcome_of (outcomes.Refused place reason) = Refused place (reason_of reason)
outcome_of (outcomes.Valid policies) = Valid (octets_of policies.items)

-- no policy stands twice in what is answered
abbrev pub EachOnce : PolicyOutcome → Type 0
EachOnce (outcomes.Refused place reason) = Unit {0}
EachOnce (outcomes.Valid policies) = is_repeated (octets_of policies.items) ≡ false

-- What is answered at a certificate that isn't the last: a reason, with which the path is refused there, whatever stands behind; or none, and the state
-- goes on.
abbrev pub IsAnswered : Settings → ℕ → List Certificate → Certificate → Option Reason → PolicyState → Type 0
IsAnswered settings n before c (Some reason) new = (next : Certificate) (rest : List Certificate) → length before + suc (suc (length rest)) ≡ n
    → IsOutcome settings (before ++ c ∷ next ∷ rest) (Refused (length before) reason)
IsAnswered settings n before c None new = Follows settings n (before ++ c ∷ []) new
